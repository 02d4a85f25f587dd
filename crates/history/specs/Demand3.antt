-- Definitions: demand 3, as it is claimed of a device for either channel after every history. Its proofs stand in `proofs/`.
use Rattle.std.specs.Prelude.{ℕ, ◌-◌, ◌<◌, ◌≤◌, ◌≡◌, Bool, false, List, [], ◌∷◌, ◌++◌, map, length, get_or, take, Ok, Err}
use Rattle.bits.specs.Choice.{pick}
use Rattle.bits.specs.Bits.{bit_at, part_at}
use Rattle.queue.specs.Change.{Change, Add, Take, Clear, Stay}
use Rattle.queue.specs.Queue.{none}
use Rattle.queue.specs.List.{some_mark}
use Rattle.event.specs.declared.events.Event.{Event}
use Rattle.event.specs.declared.events.Event.TheVariants as event
use Rattle.event.specs.Events.{Made}
use Rattle.event.specs.declared.events.Touch.{Touch}
use Rattle.event.specs.declared.events.Touch.TheVariants as touch
use Rattle.registers.specs.declared.register.Register.{Register}
use Rattle.registers.specs.declared.register.Register.TheVariants as register
use Rattle.registers.specs.declared.settings.Settings.{Settings}
use Rattle.registers.specs.Windows.{register_at}
use Rattle.levels.specs.Queues.{room_of}
use Rattle.receiver.specs.Arrivals.{heard_of}
use Rattle.receiver.specs.Line.{fate_number}
use Rattle.acts.specs.Touches.{resets_by}
use Rattle.device.specs.declared.side.Side.{Side}
use Rattle.device.specs.declared.side.Side.TheVariants as side
use Rattle.device.specs.declared.device.Device.{Device}
use Rattle.device.specs.Reset.{new_device}
use Rattle.device.specs.Device.{channel_at, side_numbered, step_of, answered_of, answer_number, Answer}
use Rattle.device.specs.Laws.{MadeIn}
use Rattle.history.specs.Judge.{Tally, queued, unread, keeps, finds, Ledger, is_side, effect_on, change_by, judged_by, fresh_ledger, judgement}

-- ---- a device after a history: each event in turn, a refused one among them
abbrev pub ran_from : Device → List Made → Device
ran_from d [] = d
ran_from d (m ∷ history) = ran_from (answered_of d m).device history

abbrev pub ran : List Made → Device
ran history = ran_from new_device history

-- its answers on the way
abbrev pub answers_from : Device → List Made → List Answer
answers_from d [] = []
answers_from d (m ∷ history) = (answered_of d m).answer ∷ answers_from (answered_of d m).device history

-- each of a history is an event in range or a refusal, as all are that are made from numbers, judged or read from a file
abbrev pub AllIn : List Made → Type 0
AllIn [] = Unit {0}
AllIn (m ∷ history) = MadeIn m × AllIn history

-- ---- what demand 3 speaks of: the events, however they came, the number that each was answered with, and the record that they
-- left
pub record Log : Type 0 where
  pub history : List Made
  pub answered : List ℕ
  pub device : Device

-- a history by value, on a new device
abbrev pub log_of : List Made → Log
log_of history = record { history = history; answered = map answer_number (answers_from new_device history); device = ran history }

-- a log of a new device
pub record OfNewDevice (log : Log) : Type 0 where
  pub range : AllIn log.history
  pub same : log ≡ log_of log.history

abbrev pub number : Side → ℕ
number side.A = 0
number side.B = 1

-- what one more event at the channel w is answered with: a read of an address, an arrival
abbrev pub reply_at : Side → Log → Touch → ℕ
reply_at w log t = (step_of log.device (event.At (number w) t)).reply

abbrev pub read_reply : Side → Log → ℕ → ℕ
read_reply w log address = reply_at w log (touch.Read address)

abbrev pub arrival_reply : Side → Log → ℕ → ℕ → ℕ
arrival_reply w log byte mark = reply_at w log (touch.Arrival byte mark)

-- by the judge: the channel's stored registers, what was kept and read since the clear, and the register that an address names
abbrev pub registers : Side → Log → Settings
registers w log = (judgement w log.history).own

abbrev pub tally : Side → Log → Tally
tally w log = (judgement w log.history).tally

abbrev pub Names : Side → Log → ℕ → Register → Type 0
Names w log address r = register_at (registers w log) address ≡ r

-- ---- the answers to the reads of the receive register that found a character since the queue was last cleared, in order
unfoldable pub found_after : Change → Tally → ℕ → List ℕ → List ℕ
found_after (Add c) l reply found = found
found_after Take l reply found = pick (finds l) (found ++ (reply ∷ [])) found
found_after Clear l reply found = []
found_after Stay l reply found = found

abbrev pub found_from : Side → Ledger → List ℕ → List Made → List ℕ → List ℕ
found_from w l found [] numbers = found
found_from w l found (m ∷ history) [] = found
found_from w l found (m ∷ history) (n ∷ numbers) =
    found_from w (judged_by w l m) (found_after (change_by l.own (effect_on w l m)) l.tally n found) history numbers

abbrev pub found : Side → Log → List ℕ
found w log = found_from w fresh_ledger [] log.history log.answered

pub record Demand3 (w : Side) (log : Log) : Type 0 where
  -- no more was read than was kept
  pub within : (tally w log).read ≤ length (tally w log).kept
  -- "the nth read that finds a character gives the nth character kept": so far,
  pub reads_in_order : found w log ≡ map (λ c. c.byte) (take (tally w log).read (tally w log).kept)
  -- and the next one
  pub next_read : (address : ℕ) → Names w log address register.RhrThr → (tally w log).read < length (tally w log).kept
      → read_reply w log address ≡ (get_or (tally w log).kept (tally w log).read none).byte
  -- a read that finds none gives 0
  pub no_read : (address : ℕ) → Names w log address register.RhrThr → queued (tally w log) ≡ 0 → read_reply w log address ≡ 0
  -- "the level is kept less read", in the record and in RXLVL
  pub level : (channel_at log.device w).rx.count ≡ length (tally w log).kept - (tally w log).read
  pub rxlvl : (address : ℕ) → Names w log address register.Rxlvl
      → read_reply w log address ≡ length (tally w log).kept - (tally w log).read
  -- "the error bits are those of the next unread character, zero if none"
  pub error_bits : (address : ℕ) → Names w log address register.Lsr
      → part_at (read_reply w log address) 2 3 ≡ (get_or (unread (tally w log)) 0 none).mark
  -- LSR 0 is set exactly if there is an unread character
  pub ready : (address : ℕ) → Names w log address register.Lsr → bit_at (read_reply w log address) 0 ≡ finds (tally w log)
  -- "LSR 7 is set exactly if some unread character carries an error"
  pub any_error : (address : ℕ) → Names w log address register.Lsr
      → bit_at (read_reply w log address) 7 ≡ some_mark (unread (tally w log))
  -- an arrival's reply is its fate by the judge
  pub fate : (byte mark : ℕ)
      → arrival_reply w log byte mark
      ≡ fate_number (heard_of (registers w log) byte mark).gate (keeps (tally w log) (room_of (registers w log)))

-- ---- "Nothing on the other channel alters this, save a device reset."
-- what is left of an event for the channel w: nothing of one of the other channel, unless it resets the device by the stored
-- registers there, and then the kind 6 that it amounts to; nothing of a refused one
abbrev pub event_left : Side → Settings → Event → List Made
event_left w other (event.At channel t) =
    pick (is_side w (side_numbered channel)) (Ok (event.At channel t) ∷ [])
    (pick (resets_by other t) (Ok event.Reset ∷ []) [])
event_left w other event.Reset = Ok event.Reset ∷ []
event_left w other event.IrqLook = Ok event.IrqLook ∷ []

abbrev pub left_of : Side → Settings → Made → List Made
left_of w other (Ok e) = event_left w other e
left_of w other (Err r) = []

abbrev pub remainder_from : Side → Ledger → List Made → List Made
remainder_from w l [] = []
remainder_from w l (m ∷ history) = left_of w l.other m ++ remainder_from w (judged_by w l m) history

abbrev pub remainder : Side → List Made → List Made
remainder w history = remainder_from w fresh_ledger history

-- an event of the channel w; a reset, an IRQ look and a refused event are neither's
abbrev pub event_of_own : Side → Event → Bool
event_of_own w (event.At channel t) = is_side w (side_numbered channel)
event_of_own w event.Reset = false
event_of_own w event.IrqLook = false

abbrev pub of_own : Side → Made → Bool
of_own w (Ok e) = event_of_own w e
of_own w (Err r) = false

-- the answers to the events of the channel w, in order
abbrev pub own_of : Side → List Made → List ℕ → List ℕ
own_of w [] numbers = []
own_of w (m ∷ history) [] = []
own_of w (m ∷ history) (n ∷ numbers) = pick (of_own w m) (n ∷ own_of w history numbers) (own_of w history numbers)

abbrev pub own_answers : Side → Log → List ℕ
own_answers w log = own_of w log.history log.answered

-- two logs of which the channel w sees the same: the same judgement of it, the same answers on it, the same record
pub record Alone (w : Side) (log another : Log) : Type 0 where
  pub same_registers : registers w log ≡ registers w another
  pub same_tally : tally w log ≡ tally w another
  pub same_answers : own_answers w log ≡ own_answers w another
  pub same_record : channel_at log.device w ≡ channel_at another.device w
