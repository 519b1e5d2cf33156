-- The parts of a report, put one after the other.
use Rattle.std.proofs.Common.{ℕ, List, ◌++◌, Option}
use Rattle.jc_base.specs.Outside.{TakesAll, TakesFront}
use Rattle.jc_report.proofs.Puts.{put_nothing, put_more, put_failed, put_last_failed}

-- the first part failed
pub first_cut : (a c : Option (List ℕ)) (x y : List ℕ) → TakesFront a c x → TakesFront a c (x ++ y)
first_cut a c x y k = put_failed a a c x y (x ++ y) (put_nothing a (x ++ y)) k

-- the first part was put, and the second one failed
pub last_cut : (a b c : Option (List ℕ)) (x y : List ℕ) → TakesAll a b x → TakesFront b c y → TakesFront a c (x ++ y)
last_cut a b c x y h k = put_last_failed a b c y (x ++ y) (put_more a a b x y (x ++ y) (put_nothing a (x ++ y)) h) k
