-- `ssi::lacks_error_bit` meets its contract: where an error is asked for, the test of the error bit decides.
use Rattle.ssi.proofs.lacks_error_bit.Goals as goal

pub returns-then-error : goal.returns-then-error
returns-then-error c = rw c.if-error.true
