-- A count, and the counts of a summary, brought up to date.
use Rattle.rules.proofs.Offered.{ℕ, ◌+◌, ◌-◌, ◌≤◌, ◌<◌, zero-add, add-one, one-add, arith, ◌≡◌, sym, ◌∙◌, List, length, set, length-set, get_or-set_same}
use Rattle.rules.proofs.Offered.{get_or-set_other, ext_get_or, at, table, settled, updated, by_eq, at_table, table_ext, length-table, same_counts}
use Rattle.rules.specs.declared.Summary.{Summary}
use Rattle.summaries.specs.declared.Tally.{Tally}
use Rattle.summaries.specs.Tallies.{in_ten}

-- below 0, past the highest, between
pub stops_low : (was before after : ℕ) → was + after < before → 0 ≡ settled was before after
unfolding settled
stops_low was before after h = omega arith

pub stops_high : (was before after : ℕ) → 65535 < was + after - before → 65535 ≡ settled was before after
unfolding settled
stops_high was before after h = omega arith

pub between : (was before after : ℕ) → was + after - before ≤ 65535 → was + after - before ≡ settled was before after
unfolding settled
between was before after h = omega arith

module _ (was : Summary) (before after : Tally) where
  -- the count of gear k + 1
  abbrev one : ℕ → ℕ
  one k = settled (at was.gears k) (at before.counts (k + 1)) (at after.counts (k + 1))

  -- the first k are there
  pub record Settled (gears : List ℕ) (k : ℕ) : Type 0 where
    pub places : length gears ≡ 10
    pub each : (j : ℕ) → j < k → at gears j ≡ one j

  pub settled_more : {gears : List ℕ} (k : ℕ) {x : ℕ} → k < 10 → Settled gears k → x ≡ one k → Settled (set gears k x) (k + 1)
  settled_more {gears} k {x} h S e = record {
    places = length-set gears k x ∙ S.places;
    each = λ j l. by_eq {i = j} {j = k} (omega arith)
        (λ q. rw q (get_or-set_same gears k x 0 (omega (arith, S.places)) ∙ e))
        (λ q. get_or-set_other gears k j x 0 (omega arith) ∙ S.each j q);
  }

  pub settled_done : {gears : List ℕ} (k : ℕ) → Settled gears k → 10 ≤ k → gears ≡ table one 0 10
  settled_done {gears} k S h =
      ext_get_or 0 gears _ (S.places ∙ sym (length-table one 0 10))
      (λ j l. let m : j < 10 = omega (arith, S.places) in S.each j (omega arith) ∙ sym (at_table one 0 10 j m ∙ rw (zero-add j)))

  -- so the whole summary
  pub updated_is : {m : Summary} → m.standing ≡ settled was.standing (at before.counts 16) (at after.counts 16) → m.gears ≡ table one 0 10
      → m.changes ≡ settled was.changes before.changes after.changes → m ≡ updated was (in_ten before) (in_ten after)
  unfolding updated in_ten
  updated_is a b c =
      same_counts a
      (b ∙ table_ext _ _ 0 10 (λ k p q.
      rw (at_table (at before.counts) 1 10 k (omega arith), at_table (at after.counts) 1 10 k (omega arith), one-add k, add-one k)))
      c
