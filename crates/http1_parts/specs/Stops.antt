-- What stops a reader of HTTP/1.1, in terms of scripts (script/specs/Script).
use Rattle.std.specs.Prelude.{ℕ, Result, Ok, Err}
use Rattle.octets.specs.Refusals.{bad_syntax, too_large, refused_at}
use Rattle.script.specs.Script.{Answer, refused, more}
use Rattle.script.specs.declared.Line.{Line}
use Rattle.script.specs.declared.Line.TheVariants.{Ends, Bad, Long, More}
use Rattle.messages.specs.declared.Stop.{Stop}

-- what a script answers where a reader stops
abbrev pub stopped : {A : Type 0} → Stop → Answer A
stopped (Stop.Refused e) = refused e.number e.place
stopped Stop.More = more

-- where a line from the place i on ends, or what stops a reader there
abbrev pub line_ended : ℕ → Line → Result ℕ Stop
line_ended i (Ends n) = Ok n
line_ended i Bad = Err (Stop.Refused (refused_at bad_syntax i))
line_ended i Long = Err (Stop.Refused (refused_at too_large i))
line_ended i More = Err Stop.More
