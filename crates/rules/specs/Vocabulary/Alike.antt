-- Words of the theorems on vehicles that are driven alike: two whose places differ only where nothing looks, and a van and the car without its crawler.
use Rattle.std.specs.Prelude.{ℕ, ◌-◌, ◌<◌, ◌≡◌, ◌++◌, replicate, take, map}
use Rattle.rules.specs.Words.{at}
use Rattle.rules.specs.declared.Vehicle.{Vehicle}
use Rattle.rules.specs.declared.Edit.{Edit}
use Rattle.rules.specs.declared.Edit.TheVariants.{Hold, Release, Mend}
use Rattle.rules.specs.declared.Summary.{Summary}
use Rattle.rules.specs.declared.Reasons.{Reasons}
use Rattle.rules.specs.Edit.{Screen, showing}
use Rattle.rules.specs.Units.{most_gears}
use Rattle.rules.specs.Why.{no_facts}
use Rattle.rules.specs.Vocabulary.Choosing.{up}

-- alike in every field, in every ratio up to ng and in every point up to the point count; what stands in the places past these may differ
pub record SameUsed (car other : Vehicle) : Type 0 where
  pub ng : other.ng ≡ car.ng
  pub ratio : (g : ℕ) → g < car.ng → at other.ratio g ≡ at car.ratio g
  pub idle : other.idle ≡ car.idle
  pub rated : other.rated ≡ car.rated
  pub nmax : other.nmax ≡ car.nmax
  pub f0 : other.f0 ≡ car.f0
  pub f1 : other.f1 ≡ car.f1
  pub f2 : other.f2 ≡ car.f2
  pub tm : other.tm ≡ car.tm
  pub margin : other.margin ≡ car.margin
  pub points : other.points ≡ car.points
  pub n : (k : ℕ) → k < car.points → at other.n k ≡ at car.n k
  pub p : (k : ℕ) → k < car.points → at other.p k ≡ at car.p k
  pub m : (k : ℕ) → k < car.points → at other.m k ≡ at car.m k
  pub profile : other.profile ≡ car.profile

-- an edit with the gear that it holds d higher; none stays none
unfoldable pub up_edit : ℕ → Edit → Edit
up_edit d (Hold s g) = Hold s (up d g)
up_edit d (Release s) = Release s
up_edit d (Mend s v) = Mend s v

-- a screen with its holds and its card d higher, and any summary
unfoldable pub up_screen : ℕ → Screen → Summary → Screen
up_screen d x n = showing x.speeds (map (up d) x.holds) (map (up d) x.card) n

-- what is said of a second, with each gear that it names d higher, and the facts of each gear in the place of the gear d higher
unfoldable pub up_reasons : ℕ → Reasons → Reasons
up_reasons d r = record {
  about = r.about;
  first = r.first;
  last = r.last;
  required = r.required;
  gears = replicate d no_facts ++ take (most_gears - d) r.gears;
  kind = r.kind;
  role = r.role;
  held = up d r.held;
  choice = up d r.choice;
  sentence = r.sentence;
  after_a = up d r.after_a;
  after_b = up d r.after_b;
  after_c = up d r.after_c;
  floor = up d r.floor;
  ceiling = up d r.ceiling;
  clutch = r.clutch;
  clutch_reason = r.clutch_reason;
  byte = up d r.byte;
}
