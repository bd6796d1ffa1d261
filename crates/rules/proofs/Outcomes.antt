-- What the definitions give meets the demands, and demands 1 and 2 together allow nothing else. What a contract says is what the definitions give.
use Rattle.rules.proofs.Base.{ℕ, ◌≡◌, refl, sym, ap, ◌∙◌, Option, none, some, List, arith, Vehicle, Edit}
use Rattle.rules.specs.Words.{at}
use Rattle.rules.specs.Corrections.{card, shown}
use Rattle.rules.specs.Refusals.{Fault, refuse_at, work_fault, work_card}
use Rattle.rules.specs.Edit.{Screen, edit_fault, edited}
use Rattle.rules.specs.Vocabulary.{PassesOthers, Demand1, Demand2, Demand3}
use Rattle.rules.proofs.Laws.Checks.{by_fault, left_none, left_some}
use Rattle.rules.proofs.Laws.Want.{tenth}
use Rattle.rules.proofs.Theorems.{want_of_a_gear, edit_as_whole, edit_frame, edit_frame_speeds, edit_frame_holds, held_shown}

-- a check that refuses does so by its number
refused_by : (n : ℕ) (o : Option ℕ) (q : Fault) → refuse_at n o ≡ some q → q.no ≡ n
unfolding refuse_at
refused_by n none q e = let z : ◌≡◌ {A = ℕ} 0 1 = cc in absurd (omega arith)
refused_by n (some i) q e = let z : record { no = n; spot = i } ≡ q = cc in sym (ap (λ (x : Fault). x.no) z)

module _ (car : Vehicle) (vs hs old : List ℕ) where
  -- where checks 1 to 9 pass, 10 alone is left
  ten_alone : PassesOthers car vs hs old → (q : Fault) → work_fault car vs hs old ≡ some q → q.no ≡ 10
  ten_alone P q e = refused_by 10 _ q (sym (tenth car vs hs old P) ∙ e)

  pub work_meets_1 : Demand1 car vs hs old (work_fault car vs hs old) (work_card car vs hs old)
  unfolding work_card
  work_meets_1 = record { table = refl; untouched = λ q e. left_some old (card car vs hs) e }

  pub work_meets_2 : Demand2 car vs hs old (work_fault car vs hs old) (work_card car vs hs old)
  unfolding work_card
  work_meets_2 = record { prescribed = λ e. left_none old (card car vs hs) e; want = want_of_a_gear car vs hs old; by_10 = ten_alone }

  -- and nothing else does
  pub only_outcome : {f : Option Fault} {new : List ℕ} → Demand1 car vs hs old f new → Demand2 car vs hs old f new
      → (f ≡ work_fault car vs hs old) × (new ≡ work_card car vs hs old)
  unfolding work_card
  only_outcome {f} D E = (
    D.table,
    by_fault f
        (λ z. E.prescribed z ∙ sym (left_none old (card car vs hs) (sym D.table ∙ z)))
        (λ q z. D.untouched q z ∙ sym (left_some old (card car vs hs) (sym D.table ∙ z))),
  )

module _ (car : Vehicle) (e : Edit) (x : Screen) where
  pub edit_meets_3 : Demand3 car e x (edit_fault car e x) (edited car e x)
  edit_meets_3 = record {
    as_whole = λ R l h D E.
        let w = edit_as_whole car e x R l h in
        let o = only_outcome car _ _ x.card D E in
        (w.0 ∙ sym o.0, w.1 ∙ sym o.1);
    frame = edit_frame car e x;
    frame_speeds = edit_frame_speeds car e x;
    frame_holds = edit_frame_holds car e x;
    shows = λ s g k ok.
        ap (λ (d : Edit). shown (at (edited car d x).card s)) k ∙ held_shown car s g x (ap (λ (d : Edit). edit_fault car d x) (sym k) ∙ ok);
  }
