-- Definitions: what an event that names a channel does, by the channel's stored registers alone: the register that it sets,
-- what happens to the queues, and whether the device is reset. The stored registers are a machine of their own: no queue,
-- flag or count is in it.
use Rattle.std.specs.Prelude.{ℕ, Bool, false, Option, None}
use Rattle.bits.specs.Choice.{pick}
use Rattle.queue.specs.declared.Character.{Character}
use Rattle.queue.specs.Change.{Change, Add, Take, Clear, Stay}
use Rattle.event.specs.declared.events.Touch.{Touch}
use Rattle.event.specs.declared.events.Touch.TheVariants as touch
use Rattle.registers.specs.declared.register.Register.{Register}
use Rattle.registers.specs.declared.register.Register.TheVariants as register
use Rattle.registers.specs.declared.settings.Setting.{Setting}
use Rattle.registers.specs.declared.settings.Settings.{Settings}
use Rattle.registers.specs.Windows.{same, register_at}
use Rattle.registers.specs.Writes.{setting_of, with_any, resets_device}
use Rattle.levels.specs.Queues.{clears}
use Rattle.receiver.specs.Arrivals.{arrived_byte, does_pass, heard_of}

-- the stored register that an event sets, if it sets one
unfoldable pub setting_by : Settings → Touch → Option Setting
setting_by s (touch.Write address byte) = setting_of s (register_at s address) byte
setting_by s (touch.Read address) = None
setting_by s (touch.Arrival byte mark) = (heard_of s byte mark).setting
setting_by s touch.Slot = None
setting_by s (touch.Pins value) = None
setting_by s touch.Quiet = None
setting_by s touch.RtsLook = None

unfoldable pub settings_after : Settings → Touch → Settings
settings_after s t = with_any s (setting_by s t)

-- a character as it would be queued
abbrev pub arrived_character : Settings → ℕ → ℕ → Character
arrived_character s byte mark = record { byte = arrived_byte s byte mark; mark = mark }

-- what happens to the receive queue. FCR: "bit 1 set clears the receive queue"; "RHR read: oldest character, removed"; "A
-- passing character is kept with its mark if fewer than room are queued"
unfoldable pub receive_change : Settings → Touch → Change
receive_change s (touch.Write address byte) = pick (clears s (register_at s address) byte 1) Clear Stay
receive_change s (touch.Read address) = pick (same (register_at s address) register.RhrThr) Take Stay
receive_change s (touch.Arrival byte mark) = pick (does_pass (heard_of s byte mark).gate) (Add (arrived_character s byte mark)) Stay
receive_change s touch.Slot = Stay
receive_change s (touch.Pins value) = Stay
receive_change s touch.Quiet = Stay
receive_change s touch.RtsLook = Stay

-- what a write does to the transmit queue: one to THR offers it the byte; FCR: "with bit 2 the transmit queue"
unfoldable pub sent_by : Settings → Register → ℕ → Change
sent_by s written byte =
    pick (same written register.RhrThr) (Add (record { byte = byte; mark = 0 })) (pick (clears s written byte 2) Clear Stay)

-- what happens to the transmit queue, where a slot may load or not; "Slot: .. then the oldest is loaded", where it may
unfoldable pub transmit_change : Settings → Bool → Touch → Change
transmit_change s loading (touch.Write address byte) = sent_by s (register_at s address) byte
transmit_change s loading (touch.Read address) = Stay
transmit_change s loading (touch.Arrival byte mark) = Stay
transmit_change s loading touch.Slot = pick loading Take Stay
transmit_change s loading (touch.Pins value) = Stay
transmit_change s loading touch.Quiet = Stay
transmit_change s loading touch.RtsLook = Stay

-- "Reset (Table 4), by kind 6 or IOControl"
unfoldable pub resets_by : Settings → Touch → Bool
resets_by s (touch.Write address byte) = resets_device (register_at s address) byte
resets_by s (touch.Read address) = false
resets_by s (touch.Arrival byte mark) = false
resets_by s touch.Slot = false
resets_by s (touch.Pins value) = false
resets_by s touch.Quiet = false
resets_by s touch.RtsLook = false
