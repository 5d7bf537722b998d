-- What the code's answers say. Assumes nothing.
use Rattle.templates.specs.Kind.{Kind, p2pkh, p2sh, p2wpkh, p2wsh, p2tr, p2a, witness, p2pk, multisig, opreturn, other}
use Rattle.templates.specs.declared.Template.{Template}
use Rattle.templates.specs.declared.Template.TheVariants as template

abbrev pub said_template : Template → Kind
said_template template.P2pkh = p2pkh
said_template template.P2sh = p2sh
said_template template.P2wpkh = p2wpkh
said_template template.P2wsh = p2wsh
said_template template.P2tr = p2tr
said_template template.P2a = p2a
said_template template.Witness = witness
said_template template.P2pk = p2pk
said_template template.Multisig = multisig
said_template template.OpReturn = opreturn
said_template template.Other = other
