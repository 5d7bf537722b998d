-- `templates::write_script_code` meets its contract: three stores, the copy of the hash, two stores. Assumes nothing.
use mathlib.Core.Path.{◌≡◌}
use mathlib.Core.List.{List}
use Prim.Native.Nat.{ℕ, ◌-◌}
use native.Mathlib.Omega.{arith}
use borrow.Rule.Slice.PartMut.{put_mid}
use lib.ListN.{length, drop, set, length-set, length-drop}
use lib.Seq.{sets}
use Rattle.laws.proofs.Stored.{to_end_lem}
use Rattle.copying.proofs.Whole.{part_copied}
use Rattle.templates.proofs.Spending.{code_stored}
use Rattle.templates.proofs.write_script_code.Goals as goal
use Rattle.templates.proofs.write_script_code.Goals.{After-copy}

-- the buffer behind the first three stores
abbrev opened : List ℕ → List ℕ
opened old = set (set (set old 0 0x76) 1 0xa9) 2 0x14

opened-length : (old : List ℕ) → length (opened old) ≡ length old
opened-length old = simp length-set

-- the hash stands behind them
hashed : (c : After-copy) → put_mid 3 (length (opened c.args.out.now) - 3) (opened c.args.out.now) c.copy.new.to ≡ sets (opened c.args.out.now) 3 (drop 2 c.args.script.now)
hashed c =
    part_copied (drop 2 c.args.script.now) (opened c.args.out.now) 3 (rw (length-drop, opened-length) (omega (arith, c.requires)))
    (rw (to_end_lem c.args.script.now 2) at c.copy.ensures.left)

pub returns : goal.returns
returns c =
    let s = (goal.at.returns c).After-copy in
    code_stored c.args.script.now c.requires.0 c.args.out.now c.requires.1 (hashed s)
