-- Laws: what happens at a lent channel is in range, a lent record stays well formed, and the number tells the answer.
use Rattle.std.specs.Prelude.{ℕ, ◌≡◌, Ok}
use Rattle.std.proofs.Common.{sym, ◌∙◌}
use Rattle.event.specs.declared.events.Touch.{Touch}
use Rattle.event.specs.declared.events.Event.TheVariants as event
use Rattle.event.specs.Events.{Made, TouchIn, InRange, event_of}
use Rattle.device.specs.declared.device.Device.{Device}
use Rattle.device.specs.Device.{WellFormed, answered_of}
use Rattle.device.specs.Laws.{MadeIn, made_in, well_formed_answered}
use Rattle.device.specs.Replies.{answers_told_apart}
use Rattle.lent.specs.Lent.{Advanced}

pub touch_in : (m : Made) {channel : ℕ} {t : Touch} → MadeIn m → m ≡ Ok (event.At channel t) → TouchIn t
touch_in m {channel} {t} range is =
    let named : InRange (event.At channel t) = rw is at range in
    named.1

pub well_formed_advanced : (d after : Device) (kind x y z number : ℕ)
    → WellFormed d → Advanced d (event_of kind x y z) after number → WellFormed after
well_formed_advanced d after kind x y z number ok done =
    rw done.1 (well_formed_answered d (event_of kind x y z) (made_in kind x y z) ok)

-- two calls that return one number gave one answer, whatever was lent to them
pub number_tells : (d c after later : Device) (m n : Made) (number : ℕ) → MadeIn m → MadeIn n → WellFormed d → WellFormed c
    → Advanced d m after number → Advanced c n later number → (answered_of d m).answer ≡ (answered_of c n).answer
number_tells d c after later m n number m_in n_in d_ok c_ok one other =
    answers_told_apart d c m n m_in n_in d_ok c_ok (sym one.0 ∙ other.0)
