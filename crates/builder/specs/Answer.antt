-- What the code's answers say. Assumes nothing.
use Rattle.std.specs.Prelude.{List, ℕ, Result, Ok, Err}
use Rattle.building.specs.Builder.{Call}
use Rattle.building.specs.Lent.{Outcome, calls}
use Rattle.refusal.specs.Answer.{said}
use Rattle.refusal.specs.declared.Refusal.{Refusal}
use Rattle.builder.specs.declared.Builder.{Builder}
use Rattle.builder.specs.declared.Built.{Built}

-- what a call leaves, with the buffer as it then is
abbrev pub said_built : Built → List ℕ → Outcome
said_built r buffer =
    record {
      said = said r.answer;
      used = r.builder.length;
      remembered = r.builder.remembered;
      buffer = buffer;
    }

-- a call by this builder that ended so: the builder for the next one, or a refusal, and this builder as it came
abbrev pub handed_back : Builder → Result Builder Refusal → Built
handed_back builder (Ok next) = record { answer = Ok tt; builder = next }
handed_back builder (Err why) = record { answer = Err why; builder = builder }

-- a call by this builder
abbrev pub calls_by : Builder → Call → List ℕ → Outcome
calls_by builder call buffer = calls call builder.length builder.remembered buffer
