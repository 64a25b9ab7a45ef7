use Rattle.std.proofs.Common.{inl}
use Rattle.job.proofs.jobs.Job.add_card.Goals as goal

pub returns-in_ok-number-in-Ok : goal.returns-in_ok-number-in-Ok
returns-in_ok-number-in-Ok c = inl (c.in-Ok.law, c.in-Ok.ensures, cc (c.from-name.ensures, c.in_ok-number-in-Ok.ensures.0), c.in_ok-number-in-Ok.ensures.1)
