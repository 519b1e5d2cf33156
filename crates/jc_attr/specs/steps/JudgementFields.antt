-- A descriptor that was judged, as its fields have it.
use Rattle.jc_attr.specs.steps.Judgements.{JudgementOf}
use Rattle.jc_attr.specs.declared.judged.Judgement.TheInside.{Inside}

-- its bytes, what it was judged as, and the answer
abbrev pub judgement_of : Inside → JudgementOf
judgement_of j = record { descriptor = j.descriptor.now; method = j.method; init = j.init; of_class = j.of_class; fits = j.fits }
