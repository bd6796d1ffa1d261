-- Request Four: the required power with speed taken out as a factor as often as it goes.
use Rattle.rules.proofs.Base.{ℕ, ◌≤◌, ◌≡◌, refl, sym, ap, ◌∙◌, ℤ, pos, nat_abs, ◌+ℤ◌, ◌*ℤ◌, +ℤ_assoc, +ℤ_comm, *ℤ_comm, Vehicle}
use Rattle.rules.specs.Inside.{InBounds}
use Rattle.rules.specs.Units.{fastest, steepest}
use Rattle.rules.specs.Gears.{required}
use Rattle.rules.specs.Vocabulary.{In64, nested, nested_sum}
use Rattle.rules.proofs.Laws.Integers.{*ℤ-+ℤ, *ℤ_assoc}
use Rattle.rules.proofs.Laws.Range.{E, lit, var, ◌⊕◌, ◌⊗◌}
use Rattle.rules.proofs.Laws.Sizes.{everywhere}

-- of four summands the last goes to the second place
fourth_second : (a b c d : ℤ) → a +ℤ b +ℤ c +ℤ d ≡ a +ℤ d +ℤ (b +ℤ c)
fourth_second a b c d =
    ap (λ x. x +ℤ d) (+ℤ_assoc a b c) ∙ +ℤ_assoc a (b +ℤ c) d ∙ ap (λ x. a +ℤ x) (+ℤ_comm (b +ℤ c) d) ∙ sym (+ℤ_assoc a d (b +ℤ c))

-- with a, b, c for the parts of F0, F1 and F2, and m t for that of the mass
nested_of : (v a b c m t : ℤ) → a *ℤ v +ℤ b *ℤ v *ℤ v +ℤ c *ℤ v *ℤ v *ℤ v +ℤ m *ℤ v *ℤ t ≡ v *ℤ (a +ℤ m *ℤ t +ℤ v *ℤ (b +ℤ v *ℤ c))
nested_of v a b c m t =
    let one : v *ℤ a ≡ a *ℤ v = *ℤ_comm v a in
    let two : v *ℤ (v *ℤ b) ≡ b *ℤ v *ℤ v = *ℤ_comm v (v *ℤ b) ∙ ap (λ x. x *ℤ v) (*ℤ_comm v b) in
    let three : v *ℤ (v *ℤ (v *ℤ c)) ≡ c *ℤ v *ℤ v *ℤ v = *ℤ_comm v (v *ℤ (v *ℤ c)) ∙ ap (λ x. x *ℤ v) (*ℤ_comm v (v *ℤ c) ∙ ap (λ x. x *ℤ v) (*ℤ_comm v c)) in
    let mass : v *ℤ (m *ℤ t) ≡ m *ℤ v *ℤ t = sym (*ℤ_assoc v m t) ∙ ap (λ x. x *ℤ t) (*ℤ_comm v m) in
    sym (*ℤ-+ℤ v (a +ℤ m *ℤ t) (v *ℤ (b +ℤ v *ℤ c))
    ∙ ap (λ x. x +ℤ v *ℤ (v *ℤ (b +ℤ v *ℤ c))) (*ℤ-+ℤ v a (m *ℤ t))
    ∙ ap (λ x. v *ℤ a +ℤ v *ℤ (m *ℤ t) +ℤ v *ℤ x) (*ℤ-+ℤ v b (v *ℤ c))
    ∙ ap (λ x. v *ℤ a +ℤ v *ℤ (m *ℤ t) +ℤ x) (*ℤ-+ℤ v (v *ℤ b) (v *ℤ (v *ℤ c)))
    ∙ rw (one, two, three, mass) (sym (fourth_second (a *ℤ v) (b *ℤ v *ℤ v) (c *ℤ v *ℤ v *ℤ v) (m *ℤ v *ℤ t))))

-- the same value at every input
pub required-nested : (car : Vehicle) (v : ℕ) (d : ℤ) → required car v d ≡ nested car v d
unfolding required nested
required-nested car v d =
    nested_of (pos v) (pos 9000000 *ℤ pos car.f0) (pos 9000 *ℤ car.f1) (pos 9 *ℤ pos car.f2) (pos 2575000 *ℤ d) (pos car.tm)

-- inside a signed 64-bit number at every step
pub nested_inside : (car : Vehicle) → InBounds car → (v : ℕ) → v ≤ fastest → (d : ℤ) → nat_abs d ≤ steepest → In64 (nested_sum car v d) (nested car v d)
unfolding nested nested_sum
nested_inside car b v v_to d d_in =
    let u : E = var (pos v) fastest v_to in
    let e : E =
    u ⊗ (lit (pos 9000000) ⊗ var (pos car.f0) 10000 b.f0_to ⊕ lit (pos 2575000) ⊗ var d steepest d_in ⊗ var (pos car.tm) 4000 b.tm_to
    ⊕ u ⊗ (lit (pos 9000) ⊗ var car.f1 5000 b.f1_in ⊕ u ⊗ (lit (pos 9) ⊗ var (pos car.f2) 20000 b.f2_to))) in
    record { same = refl; each = everywhere e tt }
