-- Definitions: the judge of a history. From the events alone it says what was kept of a channel's arrivals since its receive queue
-- was last cleared, and how many reads of the receive register found a character. There is no queue, no device and no reply here:
-- "What the fate rules call queued is there judged from the history, as kept less read since the clear, and a read finds
-- a character exactly if that isn't 0."
use Rattle.std.specs.Prelude.{ℕ, ◌+◌, ◌-◌, Bool, true, false, not, List, [], ◌∷◌, ◌++◌, length, drop, eqb, ltb, Ok, Err}
use Rattle.bits.specs.Choice.{pick}
use Rattle.queue.specs.declared.Character.{Character}
use Rattle.queue.specs.Change.{Change, Add, Take, Clear, Stay}
use Rattle.event.specs.declared.events.Event.{Event}
use Rattle.event.specs.declared.events.Event.TheVariants as event
use Rattle.event.specs.Events.{Made}
use Rattle.event.specs.declared.events.Touch.{Touch}
use Rattle.registers.specs.declared.settings.Settings.{Settings}
use Rattle.levels.specs.Queues.{room_of}
use Rattle.acts.specs.Touches.{settings_after, receive_change, resets_by}
use Rattle.device.specs.declared.side.Side.{Side}
use Rattle.device.specs.declared.side.Side.TheVariants as side
use Rattle.device.specs.Reset.{settings_reset, blank_settings}
use Rattle.device.specs.Device.{side_numbered}

-- a channel's receive side since its queue was last cleared: the characters kept, in order, and how many were read
pub record Tally : Type 0 where
  pub kept : List Character
  pub read : ℕ

-- after a clear
abbrev pub fresh_tally : Tally
fresh_tally = record { kept = []; read = 0 }

-- kept less read
abbrev pub queued : Tally → ℕ
queued l = length l.kept - l.read

-- the characters kept and not read, the next one first
abbrev pub unread : Tally → List Character
unread l = drop l.read l.kept

-- "kept .. if fewer than room are queued"
abbrev pub keeps : Tally → ℕ → Bool
keeps l room = ltb (queued l) room

-- "a read finds a character exactly if that isn't 0"
abbrev pub finds : Tally → Bool
finds l = not (eqb (queued l) 0)

unfoldable pub tally_after : Tally → Change → ℕ → Tally
tally_after l (Add c) room = pick (keeps l room) (record { kept = l.kept ++ (c ∷ []); read = l.read }) l
tally_after l Take room = pick (finds l) (record { kept = l.kept; read = l.read + 1 }) l
tally_after l Clear room = fresh_tally
tally_after l Stay room = l

-- what the judge of a channel holds: its stored registers, the other channel's, and its tally
pub record Ledger : Type 0 where
  pub own : Settings
  pub other : Settings
  pub tally : Tally

-- the ledger of a new device
abbrev pub fresh_ledger : Ledger
fresh_ledger = record { own = settings_reset blank_settings; other = settings_reset blank_settings; tally = fresh_tally }

-- an event as a channel meets it: it touches the channel, touches the other, resets the device, or does neither
pub data Effect : Type 0 where
  Own : Touch → Effect
  Other : Touch → Effect
  Reset : Effect
  Nothing : Effect

-- whether two sides are one
abbrev pub is_side : Side → Side → Bool
is_side side.A side.A = true
is_side side.A side.B = false
is_side side.B side.A = false
is_side side.B side.B = true

-- what an event does goes by the stored registers of the channel that it names
abbrev pub named_effect : Bool → Ledger → Touch → Effect
named_effect true l t = pick (resets_by l.own t) Reset (Own t)
named_effect false l t = pick (resets_by l.other t) Reset (Other t)

abbrev pub event_effect : Side → Ledger → Event → Effect
event_effect w l (event.At channel t) = named_effect (is_side w (side_numbered channel)) l t
event_effect w l event.Reset = Reset
event_effect w l event.IrqLook = Nothing

-- a refused event does nothing
abbrev pub effect_on : Side → Ledger → Made → Effect
effect_on w l (Ok e) = event_effect w l e
effect_on w l (Err r) = Nothing

-- what it does to what the channel has kept and read
abbrev pub change_by : Settings → Effect → Change
change_by s (Own t) = receive_change s t
change_by s (Other t) = Stay
change_by s Reset = Clear
change_by s Nothing = Stay

-- and to what a touch and a reset alter
abbrev pub met_by : {A : Type 0} → (A → Touch → A) → (A → A) → A → Effect → A
met_by touched reset a (Own t) = touched a t
met_by touched reset a (Other t) = a
met_by touched reset a Reset = reset a
met_by touched reset a Nothing = a

abbrev pub settings_met : Settings → Effect → Settings
settings_met s f = met_by settings_after settings_reset s f

-- the same event as the other channel meets it
abbrev pub elsewhere : Effect → Effect
elsewhere (Own t) = Other t
elsewhere (Other t) = Own t
elsewhere Reset = Reset
elsewhere Nothing = Nothing

unfoldable pub ledger_after : Ledger → Effect → Ledger
ledger_after l f =
    record {
      own = settings_met l.own f;
      other = settings_met l.other (elsewhere f);
      tally = tally_after l.tally (change_by l.own f) (room_of l.own);
    }

unfoldable pub judged_by : Side → Ledger → Made → Ledger
judged_by w l m = ledger_after l (effect_on w l m)

abbrev pub judged_from : Side → Ledger → List Made → Ledger
judged_from w l [] = l
judged_from w l (m ∷ history) = judged_from w (judged_by w l m) history

-- what a history from a new device comes to for the channel w
abbrev pub judgement : Side → List Made → Ledger
judgement w history = judged_from w fresh_ledger history
