-- The measure is the number, of which each call takes the last digit off.
use Rattle.text.proofs.+put_number.Given as goal

abbrev pub decreases-put_number : goal.decreases-put_number
decreases-put_number l = l.number
