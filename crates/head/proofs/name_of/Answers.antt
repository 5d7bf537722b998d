-- `head::name_of` meets its contract: each name is the one that is written. Assumes nothing.
use mathlib.Core.Path.{refl}
use Rattle.head.proofs.name_of.Goals as goal

pub returns-in-P2pkh : goal.returns-in-P2pkh
returns-in-P2pkh c = rw c.in-P2pkh.is refl

pub returns-in-P2sh : goal.returns-in-P2sh
returns-in-P2sh c = rw c.in-P2sh.is refl

pub returns-in-P2wpkh : goal.returns-in-P2wpkh
returns-in-P2wpkh c = rw c.in-P2wpkh.is refl

pub returns-in-P2wsh : goal.returns-in-P2wsh
returns-in-P2wsh c = rw c.in-P2wsh.is refl

pub returns-in-P2tr : goal.returns-in-P2tr
returns-in-P2tr c = rw c.in-P2tr.is refl

pub returns-in-P2a : goal.returns-in-P2a
returns-in-P2a c = rw c.in-P2a.is refl

pub returns-in-Witness : goal.returns-in-Witness
returns-in-Witness c = rw c.in-Witness.is refl

pub returns-in-P2pk : goal.returns-in-P2pk
returns-in-P2pk c = rw c.in-P2pk.is refl

pub returns-in-Multisig : goal.returns-in-Multisig
returns-in-Multisig c = rw c.in-Multisig.is refl

pub returns-in-OpReturn : goal.returns-in-OpReturn
returns-in-OpReturn c = rw c.in-OpReturn.is refl

pub returns-in-Other : goal.returns-in-Other
returns-in-Other c = rw c.in-Other.is refl
