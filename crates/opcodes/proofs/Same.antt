-- Answers that say the same are the same. Assumes nothing.
use mathlib.Core.Path.{◌≡◌, refl, ap, sym, ◌∙◌}
use Rattle.opcodes.specs.Opcode.{
  PushForm,
  direct,
  pushdata1,
  pushdata2,
  pushdata4,
  Sort,
  push,
  number,
  plain,
  said_form,
  said_class,
}
use Rattle.opcodes.specs.declared.Form.{Form}
use Rattle.opcodes.specs.declared.Form.TheVariants.{Direct, PushData1, PushData2, PushData4}
use Rattle.opcodes.specs.declared.Class.{Class}
use Rattle.opcodes.specs.declared.Class.TheVariants.{Push, PushNum, Ordinary}

-- the answer that is said
abbrev form_of : PushForm → Form
form_of direct = Direct
form_of pushdata1 = PushData1
form_of pushdata2 = PushData2
form_of pushdata4 = PushData4

abbrev class_of : Sort → Class
class_of (push form) = Push (form_of form)
class_of number = PushNum
class_of plain = Ordinary

form_back : (f : Form) → form_of (said_form f) ≡ f
form_back Direct = refl
form_back PushData1 = refl
form_back PushData2 = refl
form_back PushData4 = refl

class_back : (k : Class) → class_of (said_class k) ≡ k
class_back (Push form) = ap Push (form_back form)
class_back PushNum = refl
class_back Ordinary = refl

pub same_form : (a b : Form) → said_form a ≡ said_form b → a ≡ b
same_form a b e = sym (form_back a) ∙ ap form_of e ∙ form_back b

pub same_class : (a b : Class) → said_class a ≡ said_class b → a ≡ b
same_class a b e = sym (class_back a) ∙ ap class_of e ∙ class_back b
