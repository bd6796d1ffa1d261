-- Two vehicles that are alike but in places past ng and past the point count: nothing looks there. In bounds or not, they are refused alike, by the working, by
-- an edit and by the writer, and what is left is the same.
use Rattle.rules.proofs.Base.{ℕ, zero, suc, ◌+◌, ◌-◌, ◌≤◌, ◌<◌, add-zero, arith, ◌≡◌, refl, sym, ap, ◌∙◌, Option, none, some, List, ◌∷◌, eqb}
use Rattle.rules.proofs.Base.{length, drop, get_or-drop, eqb-false, Vehicle, Edit, Hold, Release, Mend}
use Rattle.rules.specs.Words.{◌or◌, within, at, every}
use Rattle.rules.specs.Units.{ratio_of, ratio_good, margin_good, point_good, bounds, first_failed, bad_field, low}
use Rattle.rules.specs.Corrections.{card}
use Rattle.rules.specs.Refusals.{Fault, refuse_at, ◌orelse◌, vehicle_fault, work_fault, work_card}
use Rattle.rules.specs.Forms.{◌then◌, seen}
use Rattle.rules.specs.Job.{points_of, parts_of, vehicle, fields, stages, job}
use Rattle.rules.specs.Summary.{summary, updated}
use Rattle.rules.specs.Edit.{Screen, showing, asked_speeds, asked_holds, edit_fault, asked_screen, edited}
use Rattle.rules.specs.Why.{why_lo, why_end, row_fault, why_fault, early_fault, why}
use Rattle.rules.specs.Write.{job_bytes, checks_fault, write_fault, write_room}
use Rattle.rules.specs.Vocabulary.{Geared, SameUsed, up_edit, up_screen}
use Rattle.rules.proofs.Laws.Words.{by_test, table_ext}
use Rattle.rules.proofs.Laws.Vehicle.{within_lo, every_ext, bounds_in}
use Rattle.rules.proofs.Laws.Checks.{accepted, orelse_none, vehicle_in, refuse_none, taken, by_fault, left_none, left_some, left_same}
use Rattle.rules.proofs.Laws.GearedTrips.{up_by_none, ups_none}
use Rattle.rules.proofs.Laws.GearedSpans.{fault-up, seconds-up}
use Rattle.rules.proofs.Laws.GearedCards.{card-up}
use Rattle.rules.proofs.Laws.GearedEdits.{asked_alike, card_alike}
use Rattle.rules.proofs.Laws.GearedReasons.{gears_as_they_are, nothing_as_it_is, why-up, why_none_higher}

-- a check that refuses keeps those after it from being asked
pub behind : (f : Option Fault) {p q : Option Fault} → (f ≡ none → p ≡ q) → f orelse p ≡ f orelse q
unfolding ◌orelse◌
behind none h = h refl
behind (some f) h = refl

points_ext : (k : ℕ) (ns ps ms ns' ps' ms' : List ℕ)
    → ((i : ℕ) → i < k → at ns' i ≡ at ns i) → ((i : ℕ) → i < k → at ps' i ≡ at ps i) → ((i : ℕ) → i < k → at ms' i ≡ at ms i)
    → points_of k ns' ps' ms' ≡ points_of k ns ps ms
unfolding points_of
points_ext zero ns ps ms ns' ps' ms' a b c = refl
points_ext (suc k) ns ps ms ns' ps' ms' a b c =
    let later : (l l' : List ℕ) → ((i : ℕ) → i < suc k → at l' i ≡ at l i) → (i : ℕ) → i < k → at (drop 1 l') i ≡ at (drop 1 l) i =
    λ l l' h i x. get_or-drop 1 l' i 0 ∙ h (1 + i) (omega arith) ∙ sym (get_or-drop 1 l i 0) in
    rw (a 0 (omega arith), b 0 (omega arith), c 0 (omega arith))
    (ap (λ r. (at ns 0, (at ps 0, at ms 0)) ∷ r)
    (points_ext k (drop 1 ns) (drop 1 ps) (drop 1 ms) (drop 1 ns') (drop 1 ps') (drop 1 ms') (later ns ns' a) (later ps ps' b) (later ms ms' c)))

-- an edit with its gear none higher is the same
no_higher : (e : Edit) → up_edit 0 e ≡ e
unfolding up_edit
no_higher (Hold s g) = ap (λ (h : ℕ). Hold s h) (up_by_none g)
no_higher (Release s) = refl
no_higher (Mend s v) = refl

-- the screen that an accepted edit leaves, of its card
unfoldable written : Edit → Screen → List ℕ → Screen
written e x new =
    let ws = asked_speeds e x.speeds in
    showing ws (asked_holds e x.holds) new (updated x.summary (summary x.speeds x.card) (summary ws new))

module _ {car other : Vehicle} (S : SameUsed car other) where
  -- ---- the fields

  ratio_same : (g : ℕ) → 1 ≤ g → g ≤ car.ng → ratio_of other g ≡ ratio_of car g
  unfolding ratio_of
  ratio_same g a b = S.ratio (g - 1) (omega arith)

  ratio_good_same : (g : ℕ) → 1 ≤ g → g ≤ car.ng → ratio_good other g ≡ ratio_good car g
  unfolding ratio_good ◌or◌
  ratio_good_same g a b =
      by_test (eqb g 1) (λ t. rw (t, ratio_same g a b))
      (λ t. let n = eqb-false g 1 t in rw (t, ratio_same g a b, ratio_same (g - 1) (omega arith) (omega arith)))

  point_good_same : (v k : ℕ) → k < car.points → point_good v other k ≡ point_good v car k
  unfolding point_good margin_good
  point_good_same v k h = rw (S.n k h, S.n (k - 1) (omega arith), S.p k h, S.m k h, S.margin)

  ratios_same : every (ratio_good other) 1 other.ng ≡ every (ratio_good car) 1 car.ng
  ratios_same =
      ap (λ (k : ℕ). every (ratio_good other) 1 k) S.ng
      ∙ every_ext (ratio_good other) (ratio_good car) car.ng 1 (λ g a b. ratio_good_same g a (omega arith))

  points_same : (v : ℕ) → every (point_good v other) 0 other.points ≡ every (point_good v car) 0 car.points
  points_same v =
      ap (λ (k : ℕ). every (point_good v other) 0 k) S.points
      ∙ every_ext (point_good v other) (point_good v car) car.points 0 (λ k a b. point_good_same v k (omega arith))

  last_same : 2 ≤ car.points → at other.n (other.points - 1) ≡ at car.n (car.points - 1)
  last_same few = ap (λ (k : ℕ). at other.n (k - 1)) S.points ∙ S.n (car.points - 1) (omega arith)

  -- of no points the first is looked at by no test that is asked
  pub fields_same : (v : ℕ) → first_failed 1 (bounds v other) ≡ first_failed 1 (bounds v car)
  unfolding bounds first_failed
  fields_same v =
      by_test (within 2 64 car.points)
      (λ t.
      let few : 2 ≤ car.points = within_lo 2 64 car.points t in
      rw (
        ratios_same,
        points_same v,
        last_same few,
        S.n 0 (omega arith),
        S.profile,
        S.ng,
        S.idle,
        S.rated,
        S.nmax,
        S.f0,
        S.f1,
        S.f2,
        S.tm,
        S.margin,
        S.points,
      ))
      (λ t. rw (ratios_same, S.profile, S.ng, S.idle, S.rated, S.nmax, S.f0, S.f1, S.f2, S.tm, S.margin, S.points, t))

  pub bad_field_same : bad_field other ≡ bad_field car
  unfolding bad_field
  bad_field_same = fields_same 3

  vehicle_same : vehicle_fault other ≡ vehicle_fault car
  unfolding vehicle_fault
  vehicle_same = ap (refuse_at 3) bad_field_same

  -- ---- the gears

  pub geared_same : Geared 0 car other
  unfolding low
  geared_same = record {
    lowest = rw S.profile (sym (add-zero (1 + car.profile)));
    highest = S.ng ∙ sym (add-zero car.ng);
    ratio = λ g a b. rw (add-zero g) (ratio_same g (omega arith) b);
    idle = S.idle;
    rated = S.rated;
    nmax = S.nmax;
    f0 = S.f0;
    f1 = S.f1;
    f2 = S.f2;
    tm = S.tm;
    margin = S.margin;
    points = S.points;
    n = S.n;
    p = S.p;
    m = S.m;
  }

  -- ---- the working

  pub work_same : (vs hs old : List ℕ) → work_fault other vs hs old ≡ work_fault car vs hs old
  unfolding work_fault
  work_same vs hs old =
      rw vehicle_same
      (behind _ (λ x. behind _ (λ y. behind (vehicle_fault car) (λ z. rw (ups_none hs) at (fault-up geared_same (vehicle_in car z) vs hs 0 (length vs))))))

  pub card_same : (vs hs old : List ℕ) → work_fault car vs hs old ≡ none → card other vs hs ≡ card car vs hs
  card_same vs hs old e = (rw (ups_none hs) at (card-up geared_same vs hs old (accepted car vs hs old e))) ∙ ups_none (card car vs hs)

  pub work_card_same : (vs hs old : List ℕ) → work_card other vs hs old ≡ work_card car vs hs old
  unfolding work_card
  work_card_same vs hs old = rw (work_same vs hs old) (left_same (work_fault car vs hs old) old (card_same vs hs old))

  -- ---- the writer

  parts_same : parts_of other ≡ parts_of car
  unfolding parts_of
  parts_same =
      rw (
        S.profile,
        S.ng,
        S.idle,
        S.rated,
        S.nmax,
        S.f0,
        S.f1,
        S.f2,
        S.tm,
        S.margin,
        S.points,
        table_ext (at other.ratio) (at car.ratio) 0 car.ng (λ i a b. S.ratio i (omega arith)),
        points_ext car.points car.n car.p car.m other.n other.p other.m S.n S.p S.m,
      )

  pub bytes_same : (v : ℕ) (vs hs : List ℕ) → job_bytes v other vs hs ≡ job_bytes v car vs hs
  unfolding job_bytes job seen stages ◌then◌ fields vehicle
  bytes_same v vs hs = rw parts_same

  checks_same : (v : ℕ) (vs hs : List ℕ) → checks_fault v other vs hs ≡ checks_fault v car vs hs
  unfolding checks_fault
  checks_same v vs hs =
      rw (fields_same v)
      (behind _ (λ w. behind _ (λ x. behind _ (λ y. behind (refuse_at 3 (first_failed 1 (bounds v car)))
      (λ z. rw (ups_none hs) at (seconds-up geared_same (bounds_in v car (refuse_none 3 _ z)) vs hs 0 (length vs)))))))

  pub write_same : (v : ℕ) (vs hs room : List ℕ) → write_fault v other vs hs room ≡ write_fault v car vs hs room
  unfolding write_fault
  write_same v vs hs room = rw (bytes_same v vs hs, checks_same v vs hs)

  pub room_same : (v : ℕ) (vs hs room : List ℕ) → write_room v other vs hs room ≡ write_room v car vs hs room
  unfolding write_room
  room_same v vs hs room = rw (write_same v vs hs room, bytes_same v vs hs)

  -- ---- an edit, of any screen

  pub edit_same : (e : Edit) (x : Screen) → edit_fault other e x ≡ edit_fault car e x
  unfolding edit_fault
  edit_same e x =
      rw vehicle_same
      (behind _ (λ p. behind _ (λ q. behind (vehicle_fault car)
      (λ z. behind _ (λ r. rw (no_higher e, ups_none x.holds) at (asked_alike geared_same z e x.speeds x.holds))))))

  asked_same : (e : Edit) (x : Screen) → edit_fault car e x ≡ none → (asked_screen other e x).card ≡ (asked_screen car e x).card
  unfolding up_screen
  asked_same e x ok =
      let z = (taken car e x ok).vehicle in
      let same : up_screen 0 x x.summary ≡ x = rw (ups_none x.holds, ups_none x.card) in
      (rw (no_higher e, same) at (card_alike geared_same z e x x.summary ok)) ∙ ups_none (asked_screen car e x).card

  pub edited_same : (e : Edit) (x : Screen) → edited other e x ≡ edited car e x
  unfolding edited asked_screen written
  edited_same e x =
      rw (edit_same e x)
      (by_fault (edit_fault car e x)
      (λ z. left_none _ _ z ∙ (λ i. written e x (asked_same e x z i)) ∙ sym (left_none _ _ z))
      (λ q z. left_some _ _ z ∙ sym (left_some _ _ z)))

  -- ---- what is said of a second

  pub why_fault_same : (vs hs : List ℕ) (s : ℕ) → why_fault other vs hs s ≡ why_fault car vs hs s
  unfolding why_fault row_fault
  why_fault_same vs hs s =
      rw vehicle_same
      (behind _ (λ p. behind _ (λ q. behind (vehicle_fault car)
      (λ z. behind _ (λ r. rw (ups_none hs) at (fault-up geared_same (vehicle_in car z) vs hs (why_lo vs s) (why_end vs s)))))))

  early_same : (vs hs : List ℕ) (s : ℕ) → early_fault other vs hs s ≡ early_fault car vs hs s
  unfolding early_fault row_fault
  early_same vs hs s =
      rw vehicle_same
      (behind _ (λ p. behind _ (λ q. behind (vehicle_fault car)
      (λ z. behind _ (λ r. rw (ups_none hs) at (seconds-up geared_same (vehicle_in car z) vs hs (why_lo vs s) (why_end vs s)))))))

  in_bounds_then : (vs hs : List ℕ) (s : ℕ) → early_fault car vs hs s ≡ none → vehicle_fault car ≡ none
  unfolding early_fault row_fault
  in_bounds_then vs hs s e = (orelse_none _ _ (orelse_none _ _ (orelse_none _ _ e).1).1).0

  refused_why : (vs hs : List ℕ) (s : ℕ) (q : Fault) → early_fault car vs hs s ≡ some q → why other vs hs s ≡ why car vs hs s
  unfolding why
  refused_why vs hs s q e = left_some _ _ (early_same vs hs s ∙ e) ∙ sym (left_some _ _ e)

  pub why_same : (vs hs : List ℕ) (s : ℕ) → why other vs hs s ≡ why car vs hs s
  why_same vs hs s =
      by_fault (early_fault car vs hs s)
      (λ e.
      let z = in_bounds_then vs hs s e in
      let w = why-up geared_same z (vehicle_same ∙ z) vs hs s (gears_as_they_are (vehicle_in car z) geared_same) nothing_as_it_is in
      (rw (ups_none hs) at w) ∙ why_none_higher car vs hs s)
      (refused_why vs hs s)
