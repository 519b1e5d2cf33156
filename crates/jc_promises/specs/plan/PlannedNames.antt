-- Names of planned clients, and the constructors that they call.
--     fresh_package O N      the package of the clients: no name of the two sides begins with it
--     own_name O N x a      the name of a client that extends or implements a: x, or where a has permitted names, one of those
--     closed_name O N x a      the same where a is closed to some clients: where it can be, a name that is no longer permitted
--     first_name O N x a b, second_name O N y x b      the names of two clients, of which the one extends a and the other b
--     constructor O a      the descriptor of the initializer of a that a client below a calls
use Rattle.std.specs.Prelude.{ℕ, zero, suc, Bool, true, not, cond, List, [], ◌∷◌, ◌++◌, length, Option, None, Some, ◌+◌, ◌&&◌, codes, nat_eq}
use Rattle.std.specs.List.{list_any, starts_with}
use Rattle.std.specs.Fmt.{decimal}
use Rattle.jc_facts.specs.declared.class_facts.Member.{Member}
use Rattle.jc_facts.specs.Names.{Bytes, same, is_name_among}
use Rattle.jc_desc.specs.Names.{is_init_name}
use Rattle.jc_facts.specs.file.Rules.{is_object_name}
use Rattle.jc_facts.specs.Options.{and_then}
use Rattle.jc_facts.specs.declared.class_facts.ClassFacts.{ClassFacts}
use Rattle.jc_facts.specs.world.World.{World, find_class}
use Rattle.jc_facts.specs.world.Modules.{OfClients}
use Rattle.jc_facts.specs.world.Loading.{excludes}
use Rattle.jc_facts.specs.world.Mentioned.{permitted, mentioned}
use Rattle.jc_promises.specs.rule.Bases.{allowed}
use Rattle.jc_promises.specs.rule.Apart.{permits_of, has_other}
use Rattle.jc_facts.specs.world.Inheritance.{public_or_protected}
use Rattle.jc_facts.specs.ByName.{lower}

-- what is there, or else this
abbrev pub value_or : {A : Type 0} → A → Option A → A
value_or x None = x
value_or x (Some y) = y

-- ---- a fresh package

-- w0, w1, w2 and so on
abbrev pub package_number : ℕ → Bytes
package_number n = codes "w" ++ decimal n

-- a name of this package
abbrev pub in_package : Bytes → Bytes → Bytes
in_package w x = w ++ 47 ∷ x

-- one of the names begins with the package's name and /
abbrev pub is_used : List Bytes → Bytes → Bool
is_used names w = list_any (λ x. starts_with nat_eq x (in_package w [])) names

-- the first package from number n on that isn't used. Each name uses one at most, so as many tries as there are names suffice
unfoldable pub first_unused : List Bytes → ℕ → ℕ → Bytes
first_unused names zero n = package_number n
first_unused names (suc tries) n = cond (is_used names (package_number n)) (first_unused names tries (n + 1)) (package_number n)

-- the package of planned clients
abbrev pub fresh_package : World → World → Bytes
fresh_package O N = first_unused (mentioned O N) (length (mentioned O N)) 0

-- ---- permitted names (JVMS 4.7.31)

-- the first in byte order of the names that pass
unfoldable pub least_name : (Bytes → Bool) → List Bytes → Option Bytes
least_name test [] = None
least_name test (x ∷ xs) = cond (test x) (Some (lower x (least_name test xs))) (least_name test xs)

-- the first in byte order of the allowed names that the class a permits on the old side, where it permits any
abbrev pub permitted_name : World → World → Bytes → Option Bytes
permitted_name O N a = and_then (λ c. least_name (allowed O N) (permitted c.permits)) (find_class O a)

-- the name of a client that extends or implements a: where a has permitted names on the old side, the first allowed one of these, and else x
abbrev pub own_name : World → World → Bytes → Bytes → Bytes
own_name O N x a = value_or x (permitted_name O N a)

-- the first in byte order of the allowed names that c, the class on the old side, permits, and that aren't among these
abbrev pub left_out_by : World → World → ClassFacts → Option (List Bytes) → Option Bytes
left_out_by O N c p = and_then (λ names. least_name (λ x. allowed O N x && not (is_name_among names x)) (permitted c.permits)) p

-- the same of the names that the class a permits on the new side, where it has permitted names and is in the module of the clients
abbrev pub missing_name : World → World → Bytes → Option Bytes
missing_name O N a = and_then (λ c. and_then (λ d. cond (excludes N d OfClients) None (left_out_by O N c d.permits)) (find_class N a)) (find_class O a)

-- the name of a client that extends or implements a, which is closed to some clients now (H2): the first name that is missing now, where there is one
abbrev pub closed_name : World → World → Bytes → Bytes → Bytes
closed_name O N x a = value_or (own_name O N x a) (missing_name O N a)

-- ---- names of two clients

-- names that a class permits, if it has permitted names, let a client be called other than x
abbrev pub leaves_another : World → World → Bytes → Option (List Bytes) → Bool
leaves_another O N x None = true
leaves_another O N x (Some names) = has_other O N x names

-- the first in byte order of the allowed names that the class a permits on the old side and beside which b leaves a client another one, where a permits any
abbrev pub permitted_beside : World → World → Bytes → Bytes → Option Bytes
permitted_beside O N a b = and_then (λ c. least_name (λ x. allowed O N x && leaves_another O N x (permits_of O b)) (permitted c.permits)) (find_class O a)

-- the first in byte order of the allowed names other than x that the class b permits on the old side, where it permits any
abbrev pub permitted_other : World → World → Bytes → Bytes → Option Bytes
permitted_other O N x b = and_then (λ c. least_name (λ y. allowed O N y && not (same x y)) (permitted c.permits)) (find_class O b)

-- the name of a client that extends a, where another one extends b: x, or a permitted one
abbrev pub first_name : World → World → Bytes → Bytes → Bytes → Bytes
first_name O N x a b = value_or x (permitted_beside O N a b)

-- the name of the client that extends b, where the other one is called x: y, or a permitted one
abbrev pub second_name : World → World → Bytes → Bytes → Bytes → Bytes
second_name O N y x b = value_or y (permitted_other O N x b)

-- ---- constructors

-- the descriptors of the public and protected instance initializers among these methods
unfoldable pub constructors : List Member → List Bytes
constructors [] = []
constructors (m ∷ ms) = cond (is_init_name m.name && public_or_protected m) (m.descriptor ∷ constructors ms) (constructors ms)

-- the first in byte order of the descriptors of the public and protected instance initializers of the class a on the old side;
-- of java/lang/Object it is ()V
abbrev pub constructor : World → Bytes → Bytes
constructor O a = cond (is_object_name a) (codes "()V") (value_or (codes "()V") (and_then (λ c. least_name (λ d. true) (constructors c.methods)) (find_class O a)))
