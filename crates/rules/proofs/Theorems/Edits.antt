-- One hold, the quick way, with requests Seven, Eight, Nine and Twelve: an edit of the screen, and edits one after the other.
use Rattle.rules.proofs.Base.{ℕ, suc, ◌-◌, ◌≤◌, ◌<◌, ◌%◌, min, ◌≡◌, refl, sym, ap, ◌∙◌, ◌≢◌, inl, inr, true, false, none, some, List, eqb, length, set}
use Rattle.rules.proofs.Base.{set-get_or, eqb-true, Vehicle, Edit, Hold, Release, Mend}
use Rattle.rules.specs.Words.{if◌then◌else◌, ◌or◌, at, part}
use Rattle.rules.specs.Units.{moving, start, stop}
use Rattle.rules.specs.Corrections.{card}
use Rattle.rules.specs.Refusals.{not_driven, span_fault, work_fault, work_card, Fault}
use Rattle.rules.specs.Vocabulary.{Out, SameSpan, MayChange, Right, Counted, Spares, seconds_in, none_held}
use Rattle.rules.specs.Edit.{Screen, second, asked_speeds, asked_holds, around, hold_span, span, asked_fault, edit_fault, asked_screen, edited, after}
use Rattle.rules.specs.Summary.{summary, updated}
use Rattle.rules.proofs.Laws.Words.{by_test, by_order}
use Rattle.rules.proofs.Laws.Trips.{own_trip}
use Rattle.rules.proofs.Laws.Checks.{accepted}
use Rattle.rules.proofs.Laws.Rising.{right_spares, edit_spares as reworked-spares}
use Rattle.rules.proofs.Laws.Edits.{whole-fault, whole-card, refused_alone, card_frame, speeds_frame, holds_frame, stays_right, run_right as edits-right}
use Rattle.rules.proofs.Laws.Buttons.{from_one, shows, hold_wins, nothing_asked, hold_standing, release_standing, none_by_7, zero_as_over, may_change}
use Rattle.rules.proofs.Laws.Span.{span-kept, looks_at-span, reworks_span}
use Rattle.rules.proofs.Laws.Counted.{counts_right, counts_by_part, run_counts as edits-counts, seconds_of, gears-shown}

-- ---- 7. One edit of the screen: a hold, a release or a mended sample

-- from a right card the very refusal, or the very card, of the whole working on the new speeds and holds; of holding for gears from 1
pub edit_as_whole : (car : Vehicle) (e : Edit) (x : Screen) → Right car x → second e < length x.speeds → none_held e ≡ false
    → let ws = asked_speeds e x.speeds in let ks = asked_holds e x.holds in
    (edit_fault car e x ≡ work_fault car ws ks x.card) × ((edited car e x).card ≡ work_card car ws ks x.card)
edit_as_whole car e x R l h = (whole-fault car e x R l h, whole-card car e x R l h)

-- so a right card stays right, and under edits one after the other, each perhaps refused
pub edit_right : (car : Vehicle) (e : Edit) (x : Screen) → Right car x → Right car (edited car e x)
edit_right = stays_right

pub run_right : (car : Vehicle) (es : List Edit) (x : Screen) → Right car x → Right car (after car es x)
run_right = edits-right

-- with no such assumption: a refusal changes nothing at all
pub edit_refused : (car : Vehicle) (e : Edit) (x : Screen) (q : Fault) → edit_fault car e x ≡ some q → edited car e x ≡ x
edit_refused = refused_alone

module _ (car : Vehicle) (e : Edit) (x : Screen) where
  -- no byte changes outside the span, and no speed and no hold but those of the second
  pub edit_frame : (i : ℕ) → Out (span e x.speeds).lo (span e x.speeds).hi i → at (edited car e x).card i ≡ at x.card i
  edit_frame = card_frame car e x

  pub edit_frame_speeds : (i : ℕ) → i ≢ second e → at (edited car e x).speeds i ≡ at x.speeds i
  edit_frame_speeds = speeds_frame car e x

  pub edit_frame_holds : (i : ℕ) → i ≢ second e → at (edited car e x).holds i ≡ at x.holds i
  edit_frame_holds = holds_frame car e x

-- the checks look at the seconds of the span and at no others, and so does the card that is left
pub edit_looks : (car : Vehicle) (e : Edit) (vs hs us ls : List ℕ) → SameSpan vs hs us ls (span e vs).lo (span e vs).end
    → asked_fault car e us ls ≡ asked_fault car e vs hs
edit_looks = looks_at-span

pub edit_reworks : (car : Vehicle) (e : Edit) (x y : Screen)
    → SameSpan x.speeds x.holds y.speeds y.holds (span e x.speeds).lo (span e x.speeds).end → y.card ≡ x.card
    → (asked_screen car e y).card ≡ (asked_screen car e x).card
edit_reworks = reworks_span

-- the span does not hang on the speed at its second, old or new
pub span_of_old : (e : Edit) (vs : List ℕ) → span e (asked_speeds e vs) ≡ span e vs
span_of_old = span-kept

-- of a hold or a release at a moving second: its trip and the standing second before it are re-worked, the standing second after it is looked at too
pub span_of-hold : (vs : List ℕ) (s : ℕ) → moving (at vs s) ≡ true
    → hold_span vs s ≡ record { lo = start vs s - 1; hi = stop vs s; end = min (suc (stop vs s)) (length vs) }
unfolding hold_span around
span_of-hold vs s m = rw (m, own_trip vs s m)

-- of a mended sample: the trips that hold the second or a neighbour, the standing second before each, the second itself and the second before it
pub span_of-mend : (ws : List ℕ) (s i : ℕ) → (around ws s).lo ≤ i → i < (around ws s).hi → MayChange ws s i
span_of-mend = may_change

-- One hold, the quick way, and request Seven

-- the one call that there was: gear 0 clears
unfoldable pub one_call : ℕ → ℕ → Edit
one_call s g = if eqb g 0 then Release s else Hold s g

-- the two buttons do all that it did: for every gear, 0 too, the very refusal, or the very card, of the whole working on the new holds
pub quick_as_whole : (car : Vehicle) (s g : ℕ) (x : Screen) → Right car x → s < length x.speeds
    → (edit_fault car (one_call s g) x ≡ work_fault car x.speeds (set x.holds s g) x.card)
    × ((edited car (one_call s g) x).card ≡ work_card car x.speeds (set x.holds s g) x.card)
unfolding one_call second asked_speeds asked_holds none_held
quick_as_whole car s g x R l =
    by_test (eqb g 0)
    (λ t. let z : g ≡ 0 = eqb-true g 0 t in rw z (edit_as_whole car (Release s) x R l refl))
    (λ t. rw t (edit_as_whole car (Hold s g) x R l t))

-- at a standing second a gear is refused, by 7 if it is not driven, else by 8, and a release is accepted; no byte changes
module _ (car : Vehicle) (vs hs : List ℕ) (s : ℕ) (r : moving (at vs s) ≡ false) (l : s < length hs) where
  pub held_standing : (g : ℕ) → asked_fault car (Hold s g) vs hs ≡ some (record { no = if eqb g 0 or not_driven car g then 7 else 8; spot = s })
  held_standing = hold_standing car vs hs s r l

  pub released_standing : asked_fault car (Release s) vs hs ≡ none
  released_standing = release_standing car vs hs s r l

pub card_standing : (vs : List ℕ) (s i : ℕ) → moving (at vs s) ≡ false → Out (hold_span vs s).lo (hold_span vs s).hi i
unfolding hold_span
card_standing vs s i r = rw r (by_order i s (λ h. inl h) (λ h. inr h))

-- a held second shows its hold, whether or not the card was right
pub held_shown : (car : Vehicle) (s g : ℕ) (x : Screen) → edit_fault car (Hold s g) x ≡ none → at (edited car (Hold s g) x).card s % 16 ≡ g
held_shown = shows

-- gear 0 is never held; where the card was right it is refused by 7, at that second
pub zero_never_held : (car : Vehicle) (s : ℕ) (x : Screen) → edit_fault car (Hold s 0) x ≢ none
zero_never_held car s x ok = from_one car s 0 x ok refl

pub zero_held_by_7 : (car : Vehicle) (s : ℕ) (x : Screen) → Right car x → s < length x.speeds
    → edit_fault car (Hold s 0) x ≡ some (record { no = 7; spot = s })
zero_held_by_7 = none_by_7

-- right or not, it is refused as a gear above ng would be
pub zero_held_as_over : (car : Vehicle) (vs hs : List ℕ) (s g : ℕ) → s < length vs → length hs ≡ length vs → not_driven car g ≡ true
    → asked_fault car (Hold s 0) vs hs ≡ span_fault car vs (set hs s g) (hold_span vs s).lo (hold_span vs s).end
zero_held_as_over = zero_as_over

-- releasing a free second, where the card was right, changes no byte
pub released_free : (car : Vehicle) (s : ℕ) (x : Screen) → Right car x → s < length x.speeds → at x.holds s ≡ 0
    → (edit_fault car (Release s) x ≡ none) × ((edited car (Release s) x).card ≡ x.card) × (asked_holds (Release s) x.holds ≡ x.holds)
unfolding second asked_speeds asked_holds none_held
released_free car s x R l z =
    let k : set x.holds s 0 ≡ x.holds = ap (set x.holds s) (sym z) ∙ set-get_or x.holds s 0 in
    let t = nothing_asked car (Release s) x R l refl refl k in (t.0, t.1, k)

-- Request Eight

-- mending a sample to the speed that it has changes nothing
pub mended_same : (car : Vehicle) (s : ℕ) (x : Screen) → Right car x → s < length x.speeds
    → let e = Mend s (at x.speeds s) in (edit_fault car e x ≡ none) × ((edited car e x).card ≡ x.card) × (asked_speeds e x.speeds ≡ x.speeds)
unfolding second asked_speeds asked_holds none_held
mended_same car s x R l =
    let k : set x.speeds s (at x.speeds s) ≡ x.speeds = set-get_or x.speeds s 0 in
    let t = nothing_asked car (Mend s (at x.speeds s)) x R l refl k refl in (t.0, t.1, k)

-- a hold stays in force: a held second that is mended still moves
pub mend-hold_wins : (car : Vehicle) (s v : ℕ) (x : Screen) → edit_fault car (Mend s v) x ≡ none → at x.holds s ≢ 0 → moving v ≡ true
mend-hold_wins = hold_wins

-- ---- Request Twelve: no card over-revs an engine, and where the speed rises a free second's gear rises by one at most, or to its floor. `Spares` has
-- both sentences, of one second

-- on every card that is right for its trace and holds, at every second
pub right_card_spares : (car : Vehicle) (x : Screen) → Right car x → (i : ℕ) → Spares car x.speeds x.holds x.card i
right_card_spares car x R = right_spares car x.speeds x.holds x.card (accepted car x.speeds x.holds x.card R.accepted) R.its_card

-- and, right or not, at every second that an accepted edit re-works
pub edit_spares : (car : Vehicle) (e : Edit) (x : Screen) → edit_fault car e x ≡ none → let r = span e (asked_speeds e x.speeds) in
    (i : ℕ) → r.lo ≤ i → i < r.hi → Spares car (edited car e x).speeds (edited car e x).holds (edited car e x).card i
edit_spares = reworked-spares

-- ---- Request Nine: the summary

-- it equals the count over the whole card whenever it did before, and under edits one after the other, be the card right or not
pub edit_counts : (car : Vehicle) (e : Edit) (x : Screen) → Counted x → Counted (edited car e x)
edit_counts = counts_right

pub run_counts : (car : Vehicle) (es : List Edit) (x : Screen) → Counted x → Counted (after car es x)
run_counts = edits-counts

-- right or not, it is brought up to date from the old and new speeds and bytes of the changed span alone
pub edit_counts_span : (car : Vehicle) (e : Edit) (x : Screen) → edit_fault car e x ≡ none
    → let lo = start x.speeds (second e) in let hi = stop x.speeds (suc (second e)) in let y = edited car e x in
    y.summary ≡ updated x.summary (summary (part x.speeds lo hi) (part x.card lo hi)) (summary (part y.speeds lo hi) (part y.card lo hi))
edit_counts_span = counts_by_part

-- on a right card the seconds in it add up to the trace length
pub seconds_add_up : (car : Vehicle) (x : Screen) → Right car x → seconds_in (summary x.speeds x.card) ≡ length x.speeds
seconds_add_up car x R =
    rw R.its_card (seconds_of x.speeds (card car x.speeds x.holds)
    (gears-shown car x.speeds x.holds x.card (accepted car x.speeds x.holds x.card R.accepted)))
