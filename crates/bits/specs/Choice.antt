-- Definitions: a choice between two values by a condition.
use Rattle.std.specs.Prelude.{ℕ, ◌≡◌, refl, Bool, true, false}
use Rattle.std.proofs.Common.{arith}

-- the first of two where the condition holds, else the second
abbrev pub pick {ℓ} : {A : Type ℓ} → Bool → A → A → A
pick true x y = x
pick false x y = y

-- what holds of each of two where the condition chooses it, holds of the one chosen
pub pick_by : {A : Type 0} (P : A → Type 0) (condition : Bool) {x y : A} → (condition ≡ true → P x) → (condition ≡ false → P y) → P (pick condition x y)
pick_by P true f g = f refl
pick_by P false f g = g refl

-- no condition both fails and holds
pub apart : false ≡ true → ⊥
apart h = let z : ◌≡◌ {A = ℕ} 0 1 = cc in omega arith
