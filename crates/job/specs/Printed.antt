-- The line that an answer, a refusal or a fault prints.
use Rattle.std.specs.Prelude.{ℕ, List, ◌++◌, codes, decimal}
use Rattle.std.specs.Fmt.{signed_decimal}
use Rattle.refusal.specs.Refusals.{line as refusal_line}
use Rattle.cards.specs.Written.{two_line_line}
use Rattle.job.specs.Forms.{spelling}
use Rattle.job.specs.Faults.{words}
use Rattle.job.specs.declared.printed.Answer.{Answer}
use Rattle.job.specs.declared.printed.Answer.TheVariants.{Card, Points, Stress, Reach}
use Rattle.job.specs.declared.printed.Printed.{Printed}
use Rattle.job.specs.declared.printed.Printed.TheVariants.{Answered, Refused, Unreadable}

-- the command's word, then the answer's numbers, one space between
abbrev pub answer_line : Answer → List ℕ
answer_line (Card name number law) = spelling name ++ (codes " " ++ (decimal number ++ (codes " " ++ two_line_line law)))
answer_line (Points number) = codes "points " ++ decimal number
answer_line (Stress stress) = codes "stress " ++ signed_decimal stress
answer_line (Reach strain) = codes "reach " ++ signed_decimal strain

abbrev pub line : Printed → List ℕ
line (Answered answer) = answer_line answer
line (Refused refusal) = refusal_line refusal
line (Unreadable number fault) = codes "E " ++ (decimal number ++ (codes " " ++ words fault))
