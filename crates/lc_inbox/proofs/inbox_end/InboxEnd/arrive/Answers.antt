use Rattle.std.proofs.Common.{rules}
use Rattle.lc_inbox.proofs.inbox_end.InboxEnd.arrive.Goals as goal

pub returns-in-Send-clause-answer : goal.returns-in-Send-clause-answer
returns-in-Send-clause-answer c = search rules

pub returns-in-Send-clause-after : goal.returns-in-Send-clause-after
returns-in-Send-clause-after c = search rules

pub returns-in-Absolve-clause-answer : goal.returns-in-Absolve-clause-answer
returns-in-Absolve-clause-answer c = search rules

pub returns-in-LimitSending-clause-answer : goal.returns-in-LimitSending-clause-answer
returns-in-LimitSending-clause-answer c = search rules

pub returns-in-Finish-clause-answer : goal.returns-in-Finish-clause-answer
returns-in-Finish-clause-answer c = search rules

pub returns-in-Finish-clause-after : goal.returns-in-Finish-clause-after
returns-in-Finish-clause-after c = search rules
