-- What the code's answers say.
use Rattle.arc_rules.specs.declared.Judged.{Judged}
use Rattle.arc_rules.specs.Chain.{Answer}

abbrev pub answer_of : Answer → Judged
answer_of a =
    record {
      number = a.number;
      place = a.place;
      outcome = a.outcome;
      reason = a.reason;
      field = a.field;
      instances = a.instances;
      status = a.status;
      oldest = a.oldest;
    }
