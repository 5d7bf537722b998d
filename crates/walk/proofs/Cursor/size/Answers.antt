-- `walk::Cursor::size` meets its contract: what was found says the size, and a push stands whole in the script. Assumes nothing.
use mathlib.Core.Path.{◌≡◌, ap, ◌∙◌}
use native.Mathlib.Omega.{arith}
use Rattle.std.specs.Prelude.{Ok}
use Rattle.std.proofs.lemmas.Result.{err_from_is_err_and}
use Rattle.laws.specs.Said.{answers, unless}
use Rattle.script.specs.Walk.{size_said, size_says}
use Rattle.script.proofs.Sized.{says_size}
use Rattle.walk.specs.Answer.{said_found, is_minimal}
use Rattle.walk.proofs.Turn.{Found, finds, says_at, good_at}
use Rattle.walk.proofs.Cursor.size.Goals as goal
use Rattle.walk.proofs.Cursor.size.Goals.{After-next}

-- where the step is known
module _ (d : After-next) where
  told : {f : Found} → d.next.result.found ≡ f
      → unless (said_found f) (answers (size_said (said_found f))) ≡ size_says (is_minimal d.args.mode) d.args.script.now d.args.self.at
  told is = says_size _ _ _ (says_at _ _ _ d.next.ensures is)

pub overflow_add-result-in-Some-Push : goal.overflow_add-result-in-Some-Push
overflow_add-result-in-Some-Push c =
    let a = c.in-Some-Push in
    omega (arith, good_at _ _ _ c.next.ensures (finds c.in_ok-next.was a.is a.field-0-is), c.length_bytes.ensures)

pub returns-in-None : goal.returns-in-None
returns-in-None c = told (goal.at.returns-in-None c).After-next (c.in_ok-next.was ∙ ap Ok c.in-None.is)

pub returns-in-Some-Opcode : goal.returns-in-Some-Opcode
returns-in-Some-Opcode c =
    let a = c.in-Some-Opcode in
    told (goal.at.returns-in-Some-Opcode c).After-next (finds c.in_ok-next.was a.is a.field-0-is)

pub returns-in-Some-Push : goal.returns-in-Some-Push
returns-in-Some-Push c =
    let a = c.in-Some-Push in
    rw c.length_bytes.ensures (told (goal.at.returns-in-Some-Push c).After-next (finds c.in_ok-next.was a.is a.field-0-is))

pub returns-in_err-next : goal.returns-in_err-next
returns-in_err-next c =
    let r = err_from_is_err_and c.from_residual.result c.from_residual.ensures.1 in
    rw (r.1, r.2) (told (goal.at.returns-in_err-next c).After-next c.in_err-next.was)
