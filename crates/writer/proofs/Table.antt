-- For proofs alone: the writer's table of bytes against the definition: of all operands only a byte can take two groups.
use Prim.Native.Nat.{ℕ, ◌<◌}
use native.Mathlib.Omega.{arith}
use mathlib.Core.Path.{◌≡◌, refl}
use mathlib.Core.List.{List, [], ◌∷◌, ◌++◌}
use lib.Dec.{ltb}
use borrow.Author.Tests.{ltb-true, ltb-false}
use Rattle.bits.specs.Choice.{pick, pick_by}
use Rattle.event.specs.declared.events.Touch.{Touch}
use Rattle.event.specs.declared.events.Touch.TheVariants as touch
use Rattle.event.specs.declared.events.Event.{Event}
use Rattle.event.specs.declared.events.Event.TheVariants as event
use Rattle.event.specs.Events.{InRange}
use Rattle.file.specs.Numbers.{groups}
use Rattle.file.specs.Form.{bytes_of}
use Rattle.file.proofs.Laws.{one_group, two_groups}

abbrev byte_groups : ℕ → List ℕ
byte_groups byte = pick (ltb byte 128) (byte ∷ []) (byte ∷ 1 ∷ [])

byte_groups_lem : (byte : ℕ) → byte < 256 → groups byte ≡ byte_groups byte
byte_groups_lem byte fits =
    pick_by (λ (l : List ℕ). groups byte ≡ l) (ltb byte 128)
    (λ h. one_group byte (ltb-true byte 128 h))
    (λ h. two_groups byte byte 1 (omega (arith, ltb-false byte 128 h)) (ltb-false byte 128 h) fits (omega arith))

abbrev touch_table : ℕ → Touch → List ℕ
touch_table channel (touch.Write address byte) = 0 ∷ channel ∷ address ∷ byte_groups byte
touch_table channel (touch.Read address) = 1 ∷ channel ∷ address ∷ []
touch_table channel (touch.Arrival byte mark) = 2 ∷ channel ∷ byte_groups byte ++ (mark ∷ [])
touch_table channel touch.Slot = 3 ∷ channel ∷ []
touch_table channel (touch.Pins value) = 4 ∷ channel ∷ value ∷ []
touch_table channel touch.Quiet = 5 ∷ channel ∷ []
touch_table channel touch.RtsLook = 8 ∷ channel ∷ []

touch_right : (channel : ℕ) (t : Touch) → InRange (event.At channel t) → bytes_of (event.At channel t) ≡ touch_table channel t
unfolding bytes_of groups
touch_right channel (touch.Write address byte) range =
    rw (one_group channel (omega arith), one_group address (omega arith), byte_groups_lem byte (omega arith))
touch_right channel (touch.Read address) range = rw (one_group channel (omega arith), one_group address (omega arith))
touch_right channel (touch.Arrival byte mark) range =
    rw (one_group channel (omega arith), byte_groups_lem byte (omega arith), one_group mark (omega arith))
touch_right channel touch.Slot range = rw (one_group channel (omega arith))
touch_right channel (touch.Pins value) range = rw (one_group channel (omega arith), one_group value (omega arith))
touch_right channel touch.Quiet range = rw (one_group channel (omega arith))
touch_right channel touch.RtsLook range = rw (one_group channel (omega arith))

abbrev table_of : Event → List ℕ
table_of (event.At channel t) = touch_table channel t
table_of event.Reset = 6 ∷ []
table_of event.IrqLook = 7 ∷ []

pub table_right : (e : Event) → InRange e → bytes_of e ≡ table_of e
unfolding bytes_of groups
table_right (event.At channel t) range = touch_right channel t range
table_right event.Reset range = refl
table_right event.IrqLook range = refl
