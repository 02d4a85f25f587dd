-- Laws: a reply is at most 256, so that the number of an answer tells it: a reply's is below 512, and a refusal's is above.
use Rattle.std.specs.Prelude.{ℕ, ◌<◌, ◌≤◌, ◌≡◌, Ok, Err}
use Rattle.std.proofs.Common.{arith, ap}
use Rattle.bits.specs.Choice.{pick_by}
use Rattle.bits.specs.Laws.{flag_in}
use Rattle.event.specs.declared.refusal.Refusal.{Refusal}
use Rattle.event.specs.declared.events.Event.{Event}
use Rattle.event.specs.declared.events.Event.TheVariants as event
use Rattle.event.specs.declared.events.Touch.{Touch}
use Rattle.event.specs.Events.{TouchIn, InRange, Made}
use Rattle.event.specs.Laws.{refusal_some, refusal_is}
use Rattle.acts.specs.Touches.{resets_by}
use Rattle.acts.specs.Laws.{step_in}
use Rattle.device.specs.declared.side.Side.{Side}
use Rattle.device.specs.declared.device.Device.{Device}
use Rattle.device.specs.declared.device.Stepped.{Stepped}
use Rattle.device.specs.Device.{WellFormed, channel_at, side_numbered, touched_at, named_step, irq_of, step_of, answered_of, answer_number, Answer}
use Rattle.device.specs.Laws.{MadeIn, well_formed_at}

-- ---- a reply is at most 256
named_reply : (d : Device) (at : Side) (t : Touch) → TouchIn t → WellFormed d → (named_step d at t).reply ≤ 256
unfolding named_step touched_at
named_reply d at t v ok =
    pick_by (λ (done : Stepped). done.reply ≤ 256) (resets_by (channel_at d at).settings t) (λ _. omega arith)
    (λ _. (step_in (channel_at d at) (well_formed_at d at ok) t v).reply_in)

pub reply_at_most_256 : (d : Device) (e : Event) → InRange e → WellFormed d → (step_of d e).reply ≤ 256
unfolding step_of
reply_at_most_256 d (event.At channel t) range ok = named_reply d (side_numbered channel) t range.1 ok
reply_at_most_256 d event.Reset range ok = omega arith
reply_at_most_256 d event.IrqLook range ok = omega (arith, flag_in (irq_of d.a d.b))

-- an answer that an event may be given
abbrev pub AnswerIn : Answer → Type 0
AnswerIn (Ok reply) = reply ≤ 256
AnswerIn (Err r) = Unit {0}

pub answer_in : (d : Device) (m : Made) → MadeIn m → WellFormed d → AnswerIn (answered_of d m).answer
unfolding answered_of
answer_in d (Ok e) range ok = reply_at_most_256 d e range ok
answer_in d (Err r) range ok = tt

-- ---- the number of an answer tells it
pub reply_below : (reply : ℕ) → AnswerIn (Ok reply) → answer_number (Ok reply) < 512
unfolding answer_number
reply_below reply h = omega arith

pub refusal_above : (r : Refusal) → 512 < answer_number (Err r)
unfolding answer_number
refusal_above r = omega (arith, refusal_some r)

number_tells : (x y : Answer) → AnswerIn x → AnswerIn y → answer_number x ≡ answer_number y → x ≡ y
unfolding answer_number
number_tells (Ok m) (Ok n) x_in y_in same = ap Ok same
number_tells (Ok m) (Err r) x_in y_in same = absurd (omega arith)
number_tells (Err r) (Ok n) x_in y_in same = absurd (omega arith)
number_tells (Err r) (Err q) x_in y_in same = ap Err (refusal_is r q (omega arith))

-- two answers of one number, whatever the devices and the events that they are given for, are one answer
pub answers_told_apart : (d c : Device) (m n : Made) → MadeIn m → MadeIn n → WellFormed d → WellFormed c
    → answer_number (answered_of d m).answer ≡ answer_number (answered_of c n).answer → (answered_of d m).answer ≡ (answered_of c n).answer
answers_told_apart d c m n m_in n_in d_ok c_ok same =
    number_tells (answered_of d m).answer (answered_of c n).answer (answer_in d m m_in d_ok) (answer_in c n n_in c_ok) same
