-- What a pool answers, without where it lies in memory.
use Rattle.std.specs.Prelude.{ℕ, List}
use Rattle.jc_desc.specs.PoolAnswers.{MemberRefOf, HandleRefOf, ConstantOf, int, float, long, double, text}
use Rattle.jc_desc.specs.PoolSteps.{PoolFaulty}
use Rattle.jc_pool.specs.declared.pool.MemberRef.{MemberRef}
use Rattle.jc_pool.specs.declared.pool.HandleRef.{HandleRef}
use Rattle.jc_pool.specs.declared.pool.PoolConstant.{PoolConstant}
use Rattle.jc_pool.specs.declared.pool.PoolConstant.TheVariants as constants
use Rattle.jc_pool.specs.declared.pool.PoolError.{PoolError}
use Rattle.jc_pool.specs.declared.pool.PoolError.TheVariants as errors

-- a member that is referred to
abbrev pub member_view : MemberRef → MemberRefOf
member_view m = record { tag = m.tag; class = m.class.now; name = m.name.now; descriptor = m.descriptor.now }

-- a use of a member
abbrev pub handle_view : HandleRef → HandleRefOf
handle_view h = record { kind = h.kind; member = member_view h.member }

-- a constant
abbrev pub constant_view : PoolConstant → ConstantOf
constant_view (constants.Int n) = int n
constant_view (constants.Float n) = float n
constant_view (constants.Long n) = long n
constant_view (constants.Double n) = double n
constant_view (constants.Text name) = text name.now

-- malformed only as the bytes are; nothing is said where memory ran out
abbrev pub PoolFails : List ℕ → PoolError → Type 0
PoolFails bytes (errors.Malformed m) = PoolFaulty bytes m.offset m.reason
PoolFails bytes errors.Memory = Unit {0}
