-- `layout::store::lay` meets its contract: `fits` says whether there is room, and `put_push` stores. Assumes nothing.
use mathlib.Core.Path.{◌≡◌, ap, ◌∙◌}
use mathlib.Core.List.{List, ◌∷◌, ◌++◌}
use Prim.Native.Nat.{ℕ, ◌+◌}
use native.Mathlib.Omega.{arith}
use lib.ListN.{length}
use lib.Seq.{sets}
use Rattle.opcodes.specs.Opcode.{length_bytes, said_form}
use Rattle.script.specs.Instruction.{write_le}
use Rattle.layout.specs.Laid.{headed}
use Rattle.std.proofs.lemmas.Result.{err_from_is_err_and}
use Rattle.layout.proofs.Stored.{pushed_length, not_laid, room_laid, all_laid}
use Rattle.layout.proofs.store.lay.Goals as goal
use Rattle.layout.proofs.store.lay.Goals.{After-length_bytes-width}

-- the room is known
module _ (f : After-length_bytes-width) where
  abbrev buffer : List ℕ
  buffer = f.args.buffer.now

  abbrev body : List ℕ
  body = f.args.body.now

  abbrev new : List ℕ
  new = headed f.args.code (said_form f.args.form) body

  sized : f.args.used + (1 + f.length_bytes-width.result) + length body ≡ f.args.used + length new
  sized =
      omega (arith, pushed_length f.args.code (length_bytes (said_form f.args.form)) (length body) body, f.length_bytes-width.ensures)

pub put_push-requires : goal.put_push-requires
put_push-requires c =
    let s = (goal.at.put_push-requires c).After-length_bytes-width in
    omega (arith, room_laid (buffer s) (new s) c.args.used _ (sized s) c.fits.ensures c.in_ok-size.was, sized s)

pub returns-in_err-size : goal.returns-in_err-size
returns-in_err-size c =
    let s = (goal.at.returns-in_err-size c).After-length_bytes-width in
    let r = err_from_is_err_and c.from_residual.result c.from_residual.ensures.1 in
    let p = not_laid (buffer s) (new s) c.args.used _ (sized s) c.fits.ensures c.in_err-size.was in
    rw (r.1, r.2) (record { answer = p.0; left = p.1 })

pub returns : goal.returns
returns c =
    let s = (goal.at.returns c).After-length_bytes-width in
    let a = c.args in
    let p = all_laid (buffer s) (new s) a.used _ (sized s) c.fits.ensures c.in_ok-size.was (c.put_push.ensures ∙ ap (λ (w : ℕ). sets (buffer s) a.used (a.code ∷ (write_le w (length (body s)) ++ body s))) c.length_bytes-width.ensures) in record { answer = p.0; left = p.1 }
