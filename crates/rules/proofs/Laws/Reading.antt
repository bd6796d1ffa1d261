-- What the reader's definitions answer, one law for each way through them.
use Rattle.rules.proofs.Base.{ℕ, ◌+◌, ◌*◌, ◌%◌, ◌≤◌, ◌<◌, arith, ◌≡◌, ◌∙◌, ◌≢◌, Bool, not, List, length, ltb, leb, eqb, lt-ltb, le-ltb, le-leb, lt-leb}
use Rattle.rules.proofs.Base.{ne_eqb, ltb-true, leb-true, eqb-false, not-true}
use Rattle.rules.specs.Words.{◌and◌, at}
use Rattle.rules.specs.Groups.{got, refused, early, group_if, group}
use Rattle.rules.proofs.Laws.Words.{by_test, and_left, and_right}

-- ---- a group

module _ (job : List ℕ) (i : ℕ) where
  abbrev pub two_of : ℕ
  two_of = at job i % 128 + 128 * (at job (i + 1) % 128)

  abbrev pub three_of : ℕ
  three_of = two_of + 16384 * at job (i + 2)

  -- whether a third byte is good
  abbrev pub good : Bool
  good = ltb (at job (i + 2)) 128 and not (eqb (at job (i + 2)) 0) and leb three_of 65535

  pub ends_first : length job ≤ i → group job i ≡ early job
  unfolding group
  ends_first h = rw (le-leb _ _ h)

  module _ (h : i < length job) where
    pub one : at job i < 128 → group job i ≡ got (at job i) (i + 1)
    unfolding group
    one a = rw (lt-leb _ _ h, lt-ltb _ _ a)

    module _ (a : 128 ≤ at job i) where
      pub ends_second : length job ≤ i + 1 → group job i ≡ early job
      unfolding group
      ends_second e = rw (lt-leb _ _ h, le-ltb _ _ a, le-leb _ _ e)

      module _ (k : i + 1 < length job) where
        pub two : at job (i + 1) < 128 → 0 < at job (i + 1) → group job i ≡ got two_of (i + 2)
        unfolding group group_if
        two b z = rw (lt-leb _ _ h, le-ltb _ _ a, lt-leb _ _ k, lt-ltb _ _ b, ne_eqb (at job (i + 1)) 0 (λ e. omega arith))

        pub two_bad : at job (i + 1) ≡ 0 → group job i ≡ refused (record { no = 13; spot = i })
        unfolding group group_if
        two_bad z = rw (lt-leb _ _ h, le-ltb _ _ a, lt-leb _ _ k, z)

        module _ (b : 128 ≤ at job (i + 1)) where
          pub ends_third : length job ≤ i + 2 → group job i ≡ early job
          unfolding group
          ends_third e = rw (lt-leb _ _ h, le-ltb _ _ a, lt-leb _ _ k, le-ltb _ _ b, le-leb _ _ e)

          pub three_if : i + 2 < length job → group job i ≡ group_if job good three_of (i + 3) i
          unfolding group
          three_if l = rw (lt-leb _ _ h, le-ltb _ _ a, lt-leb _ _ k, le-ltb _ _ b, lt-leb _ _ l)

          pub three : i + 2 < length job → at job (i + 2) < 128 → 0 < at job (i + 2) → three_of ≤ 65535 → group job i ≡ got three_of (i + 3)
          unfolding group_if ◌and◌
          three l c z s =
              three_if l ∙ rw (lt-ltb (at job (i + 2)) 128 c, ne_eqb (at job (i + 2)) 0 (λ e. omega arith), le-leb three_of 65535 s)

          pub three_bad : i + 2 < length job → (at job (i + 2) < 128 → at job (i + 2) ≢ 0 → three_of ≤ 65535 → ⊥)
              → group job i ≡ refused (record { no = 13; spot = i })
          unfolding group_if
          three_bad l bad =
              three_if l
              ∙ by_test good
              (λ t. let u = and_left _ _ t in
              absurd (bad (ltb-true _ _ (and_left _ _ u)) (eqb-false _ _ (not-true _ (and_right _ _ u))) (leb-true _ _ (and_right _ _ t))))
              (λ t. rw t)
