-- Answers that say the same are the same. Assumes nothing.
use mathlib.Core.Path.{◌≡◌, refl, sym, ap, ◌∙◌}
use Rattle.templates.specs.Kind.{Kind, p2pkh, p2sh, p2wpkh, p2wsh, p2tr, p2a, witness, p2pk, multisig, opreturn, other}
use Rattle.templates.specs.Answer.{said_template}
use Rattle.templates.specs.declared.Template.{Template}
use Rattle.templates.specs.declared.Template.TheVariants as template

-- the template that is said
abbrev named : Kind → Template
named p2pkh = template.P2pkh
named p2sh = template.P2sh
named p2wpkh = template.P2wpkh
named p2wsh = template.P2wsh
named p2tr = template.P2tr
named p2a = template.P2a
named witness = template.Witness
named p2pk = template.P2pk
named multisig = template.Multisig
named opreturn = template.OpReturn
named other = template.Other

back : (t : Template) → named (said_template t) ≡ t
back template.P2pkh = refl
back template.P2sh = refl
back template.P2wpkh = refl
back template.P2wsh = refl
back template.P2tr = refl
back template.P2a = refl
back template.Witness = refl
back template.P2pk = refl
back template.Multisig = refl
back template.OpReturn = refl
back template.Other = refl

pub same_template : (a b : Template) → said_template a ≡ said_template b → a ≡ b
same_template a b e = sym (back a) ∙ ap named e ∙ back b
