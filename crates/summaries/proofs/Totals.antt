-- A whole card counted: what counting it asks, and that the counts are its summary.
use Rattle.rules.proofs.Offered.{ℕ, ◌-◌, ◌≤◌, arith, ◌≡◌, none, List, [], length, moving, longest, trace_fault}
use Rattle.rules.proofs.Offered.{room_fault, summary, summary_fault, counted_summary, updated, standing_past, trace_in, rooms_in, left_none, orelse_none}
use Rattle.rules.proofs.Offered.{counts, updated_right}
use Rattle.rules.specs.declared.Summary.{Summary}
use Rattle.std.specs.List.{range_with_len}
use Rattle.std.specs.Array.{AllOfLen}
use Rattle.std.proofs.lemmas.List.FromFn.{fill_by_all}
use Rattle.rules.proofs.Offered.{map, same_counts, table, tally}
use Rattle.summaries.specs.declared.Tally.{Tally}
use Rattle.summaries.specs.Tallies.{tallied, in_ten, Countable}
use Rattle.summaries.proofs.Counting.{ten_of}

-- what `Default` makes of a summary is that of no seconds
pub default_is : (n : Summary) → (n.standing ≡ 0) × (AllOfLen (λ x. x ≡ 0) n.gears 10 × (n.changes ≡ 0)) → n ≡ summary [] []
unfolding summary tally table counts
default_is n h =
    let A = h.1.0 in
    let e : n.gears ≡ map (λ k. 0) (range_with_len 0 10) = fill_by_all (λ k. 0) n.gears 10 0 A.long (λ k l. A.at k 0 l) in
    same_counts h.0 e h.1.1

module _ (vs bs : List ℕ) (ok : summary_fault vs bs ≡ none) where
  lengths : (length vs ≤ 16384) × (length bs ≡ length vs)
  unfolding summary_fault longest
  lengths = let o = orelse_none (trace_fault vs) (room_fault vs bs bs) ok in ((trace_in vs o.0).1, (rooms_in vs bs bs o.1).1)

  pub all_countable : Countable vs bs 0 (length vs)
  unfolding moving
  all_countable = let l = lengths in record {
    order = omega arith;
    in_trace = omega arith;
    in_card = omega arith;
    few = omega arith;
    ends = λ h. standing_past vs (length vs) (omega arith);
  }

  pub whole-settled : {m : Summary} {z t : Tally} → m ≡ summary [] [] → z ≡ tallied [] [] 0 0 → t ≡ tallied vs bs 0 (length vs - 0)
      → updated m (in_ten z) (in_ten t) ≡ counted_summary vs bs
  unfolding counted_summary summary counts
  whole-settled a b e =
      let l = lengths in
      let z : length vs - 0 ≡ length vs = omega arith in
      rw (a, b, e, z, ten_of vs bs 0 (length vs), ten_of [] [] 0 0, left_none (summary [] []) (summary vs bs) ok) (updated_right [] [] vs bs (omega arith))
