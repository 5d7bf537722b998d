-- `templates::p2wpkh_script_code` meets its contract: the template and the room are tested before the first byte is written. Assumes nothing.
use mathlib.Core.Path.{sym, ◌∙◌}
use Rattle.templates.proofs.Spending.{code_short, code_written}
use Rattle.templates.proofs.p2wpkh_script_code.Goals as goal

pub returns-then-out-lt-SCRIPT_CODE_SIZE : goal.returns-then-out-lt-SCRIPT_CODE_SIZE
returns-then-out-lt-SCRIPT_CODE_SIZE c =
    code_short _ c.args.out.now c.in_ok-check_limit.ensures.within (sym c.program.ensures ∙ c.if-program.true) c.if-out-lt-SCRIPT_CODE_SIZE.true

pub returns-then-program : goal.returns-then-program
returns-then-program c =
    code_written _ c.args.out.now c.in_ok-check_limit.ensures.within (sym c.program.ensures ∙ c.if-program.true)
    c.if-out-lt-SCRIPT_CODE_SIZE.false c.write_script_code.ensures
