-- Laws: refusals and kinds told apart by their numbers, what plain numbers come to, and that an event in range is the one that its
-- own numbers make.
use Rattle.std.specs.Prelude.{ℕ, ◌<◌, ◌≤◌, ◌≡◌, refl, Bool, List, [], ◌∷◌, get_or, eqb, ltb, Result, Ok, Err}
use native.Mathlib.Omega.{arith}
use Rattle.std.proofs.Common.{sym, ap, ◌∙◌, le-ltb, eqb-true, ltb-true, ltb-false}
use Rattle.std.proofs.lemmas.Bool.{eqb-false}
use Rattle.bits.specs.Choice.{pick, pick_by}
use Rattle.event.specs.declared.refusal.Refusal.{Refusal}
use Rattle.event.specs.declared.refusal.Refusal.TheVariants as refusal
use Rattle.event.specs.declared.events.Touch.{Touch}
use Rattle.event.specs.declared.events.Touch.TheVariants as touch
use Rattle.event.specs.declared.events.Event.{Event}
use Rattle.event.specs.declared.events.Event.TheVariants as event
use Rattle.event.specs.Refusals.{refusal_number}
use Rattle.event.specs.declared.kind.Kind.{Kind}
use Rattle.event.specs.declared.kind.Kind.TheVariants as kind
use Rattle.event.specs.Kinds.{kind_number, NamedBy, operand_count}
use Rattle.event.specs.Events.{Made, event_at, touch_of, event_of, Numbers, numbers_of, judged_of, InRange}

-- ---- no refusal has the number 0
pub refusal_some : (r : Refusal) → 0 < refusal_number r
refusal_some refusal.Number = omega arith
refusal_some refusal.Short = omega arith
refusal_some refusal.Kind = omega arith
refusal_some refusal.Channel = omega arith
refusal_some refusal.Address = omega arith
refusal_some refusal.Byte = omega arith
refusal_some refusal.Mark = omega arith
refusal_some refusal.Pins = omega arith
refusal_some refusal.Long = omega arith

-- ---- where each is found in a list at its number, two of one number are one
told_by_number : {A : Type 0} (number : A → ℕ) (all : List A) (other : A) → ((x : A) → x ≡ get_or all (number x) other)
    → (x y : A) → number x ≡ number y → x ≡ y
told_by_number number all other found x y same = found x ∙ ap (λ (n : ℕ). get_or all n other) same ∙ sym (found y)

abbrev by_number : List Refusal
by_number =
    refusal.Long ∷ refusal.Number ∷ refusal.Short ∷ refusal.Kind ∷ refusal.Channel ∷ refusal.Address ∷ refusal.Byte ∷ refusal.Mark
    ∷ refusal.Pins ∷ []

found_by_number : (r : Refusal) → r ≡ get_or by_number (refusal_number r) refusal.Long
found_by_number refusal.Number = refl
found_by_number refusal.Short = refl
found_by_number refusal.Kind = refl
found_by_number refusal.Channel = refl
found_by_number refusal.Address = refl
found_by_number refusal.Byte = refl
found_by_number refusal.Mark = refl
found_by_number refusal.Pins = refl
found_by_number refusal.Long = refl

pub refusal_is : (r q : Refusal) → refusal_number r ≡ refusal_number q → r ≡ q
refusal_is = told_by_number refusal_number by_number refusal.Long found_by_number

-- a kind is found so too, and none has a number above 8: a number names one kind or none
abbrev kinds : List Kind
kinds =
    kind.Write ∷ kind.Read ∷ kind.Arrival ∷ kind.Slot ∷ kind.Pins ∷ kind.Quiet ∷ kind.Reset ∷ kind.IrqLook ∷ kind.RtsLook ∷ []

found_in_kinds : (k : Kind) → (k ≡ get_or kinds (kind_number k) kind.Write) × (kind_number k ≤ 8)
found_in_kinds kind.Write = (refl, omega arith)
found_in_kinds kind.Read = (refl, omega arith)
found_in_kinds kind.Arrival = (refl, omega arith)
found_in_kinds kind.Slot = (refl, omega arith)
found_in_kinds kind.Pins = (refl, omega arith)
found_in_kinds kind.Quiet = (refl, omega arith)
found_in_kinds kind.Reset = (refl, omega arith)
found_in_kinds kind.IrqLook = (refl, omega arith)
found_in_kinds kind.RtsLook = (refl, omega arith)

pub named_once : (number : ℕ) (one other : Result Kind Refusal) → NamedBy number one → NamedBy number other → one ≡ other
named_once number (Ok k) (Ok j) one other =
    ap Ok (told_by_number kind_number kinds kind.Write (λ x. (found_in_kinds x).0) k j (one ∙ sym other))
named_once number (Ok k) (Err r) one other = absurd (omega (arith, (found_in_kinds k).1, one, other.0))
named_once number (Err r) (Ok k) one other = absurd (omega (arith, (found_in_kinds k).1, one.0, other))
named_once number (Err r) (Err q) one other = ap Err (one.1 ∙ sym other.1)

-- the numbers that are looked at: 0 for the operands that the kind lacks
abbrev pub looked_at : Numbers → Numbers
looked_at n = record {
  kind = n.kind;
  x = pick (ltb 0 (operand_count n.kind)) n.x 0;
  y = pick (ltb 1 (operand_count n.kind)) n.y 0;
  z = pick (ltb 2 (operand_count n.kind)) n.z 0;
}

-- ---- what numbers come to: an event in range whose own numbers are those that are looked at, or a refusal of 3 for the kind and of 4 to 8 for an operand
abbrev pub MadeOf : Numbers → Made → Type 0
MadeOf n (Ok e) = InRange e × (numbers_of e ≡ looked_at n)
MadeOf n (Err r) = (n.kind ≤ 8 → 4 ≤ refusal_number r) × (refusal_number r ≤ 8)

module _ {A : Type 0} (P : Result A Refusal → Type 0) where
  within : (limit n : ℕ) {r : Refusal} {m : Result A Refusal} → (limit < n → P (Err r)) → (n ≤ limit → P m)
      → P (pick (ltb limit n) (Err r) m)
  within limit n f g = pick_by P (ltb limit n) (λ h. f (ltb-true limit n h)) (λ h. g (ltb-false limit n h))

  of_kind : (kind k : ℕ) {m rest : Result A Refusal} → (kind ≡ k → P m) → ((kind ≡ k → ⊥) → P rest) → P (pick (eqb kind k) m rest)
  of_kind kind k f g = pick_by P (eqb kind k) (λ h. f (eqb-true kind k h)) (λ h. g (eqb-false kind k h))

  in_turn : (kind k : ℕ) {m rest : Result A Refusal} → k ≤ kind → (kind ≡ k → P m) → (k < kind → P rest) → P (pick (eqb kind k) m rest)
  in_turn kind k from f g = of_kind kind k f (λ other. g (omega arith))

module _ (kind x y z : ℕ) where
  abbrev P : Made → Type 0
  P = MadeOf (record { kind = kind; x = x; y = y; z = z })

  -- and of what happens at the channel
  abbrev At : Result Touch Refusal → Type 0
  At t = P (event_at x t)

  touch_of_made : kind ≤ 8 → (kind ≡ 6 → ⊥) → (kind ≡ 7 → ⊥) → x ≤ 1 → At (touch_of kind y z)
  unfolding touch_of
  touch_of_made known not_6 not_7 channel =
      in_turn At kind 0 (omega arith)
      (λ k. within At 15 y (λ _. omega arith) (λ address. within At 255 z (λ _. omega arith) (λ byte. (omega arith, simp k))))
      (λ from. in_turn At kind 1 from
      (λ k. within At 15 y (λ _. omega arith) (λ address. (omega arith, simp k)))
      (λ from. in_turn At kind 2 from
      (λ k. within At 255 y (λ _. omega arith) (λ byte. within At 7 z (λ _. omega arith) (λ mark. (omega arith, simp k))))
      (λ from. in_turn At kind 3 from
      (λ k. (omega arith, simp k))
      (λ from. in_turn At kind 4 from
      (λ k. within At 15 y (λ _. omega arith) (λ value. (omega arith, simp k)))
      (λ from. in_turn At kind 5 from
      (λ k. (omega arith, simp k))
      (λ from. let k : kind ≡ 8 = omega arith in (omega arith, simp k)))))))

  pub made_of_lem : P (event_of kind x y z)
  unfolding event_of
  made_of_lem =
      within P 8 kind (λ unknown. omega arith)
      (λ known. of_kind P kind 6 (λ k. (tt, simp k))
      (λ not_6. of_kind P kind 7 (λ k. (tt, simp k))
      (λ not_7. within P 1 x (λ _. omega arith) (λ channel. touch_of_made known not_6 not_7 channel))))

  pub made_in_range : {e : Event} → event_of kind x y z ≡ Ok e → InRange e
  made_in_range made = (rw made at made_of_lem).0

-- an operand as an event holds it: within two groups of a file, and 0 where the kind has none
abbrev pub Operand : Bool → ℕ → Type 0
Operand wanted n = (n < 16384) × (n ≡ pick wanted n 0)

-- ---- an event in range is the one that its own numbers make; they are small, and 0 where the kind has no such operand
abbrev pub Small : Numbers → Type 0
Small n =
    (n.kind ≤ 8)
    × Operand (ltb 0 (operand_count n.kind)) n.x
    × Operand (ltb 1 (operand_count n.kind)) n.y
    × Operand (ltb 2 (operand_count n.kind)) n.z

abbrev Known : Event → Type 0
Known e = (judged_of e ≡ Ok e) × Small (numbers_of e)

touch_known : (channel : ℕ) (t : Touch) → InRange (event.At channel t) → Known (event.At channel t)
unfolding judged_of event_of touch_of
touch_known channel (touch.Write address byte) range =
    (rw (le-ltb 1 channel (omega arith), le-ltb 15 address (omega arith), le-ltb 255 byte (omega arith)), omega arith)
touch_known channel (touch.Read address) range = (rw (le-ltb 1 channel (omega arith), le-ltb 15 address (omega arith)), omega arith)
touch_known channel (touch.Arrival byte mark) range =
    (rw (le-ltb 1 channel (omega arith), le-ltb 255 byte (omega arith), le-ltb 7 mark (omega arith)), omega arith)
touch_known channel touch.Slot range = (rw (le-ltb 1 channel (omega arith)), omega arith)
touch_known channel (touch.Pins value) range = (rw (le-ltb 1 channel (omega arith), le-ltb 15 value (omega arith)), omega arith)
touch_known channel touch.Quiet range = (rw (le-ltb 1 channel (omega arith)), omega arith)
touch_known channel touch.RtsLook range = (rw (le-ltb 1 channel (omega arith)), omega arith)

pub in_range_known : (e : Event) → InRange e → Known e
unfolding judged_of event_of
in_range_known (event.At channel t) range = touch_known channel t range
in_range_known event.Reset range = (refl, omega arith)
in_range_known event.IrqLook range = (refl, omega arith)

pub in_range_judged : (e : Event) → InRange e → judged_of e ≡ Ok e
in_range_judged e range = (in_range_known e range).0
