-- A member, and a loop over members.
use Rattle.std.proofs.Common.{◌≡◌, ℕ, suc, ◌-◌, ◌<◌, Bool, true, false, not, List, [], ◌∷◌, ◌++◌, Result, Ok, Err, refl, sym, ap, ◌∙◌, arith}
use Rattle.std.proofs.lemmas.List.{append-nil, map_push}
use Rattle.jc_desc.specs.declared.fault.Fault.{Fault}
use Rattle.jc_desc.specs.Pool.{PoolOf}
use Rattle.jc_facts.specs.declared.key.Key.{Key}
use Rattle.jc_facts.specs.declared.class_facts.Member.{Member}
use Rattle.jc_facts.specs.Names.{key_of}
use Rattle.jc_facts.specs.file.Valid.{has_key}
use Rattle.jc_read.specs.steps.MemberViews.{read_keys}
use Rattle.jc_facts.specs.file.ClassParts.{OnMember, ReadMember}
use Rattle.jc_facts.specs.file.ClassSteps.{nothing_on_member, member_takes, counted_attributes_at, member_head_from, member_from, members_at}
use Rattle.jc_attr.specs.steps.Front.{with_front}
use Rattle.jc_attr.proofs.Lists.{regroup}

new_key : (new b : Bool) → new ≡ not b → new ≡ true → b ≡ false
new_key new true e h = absurd cc
new_key new false e h = refl

pub member_good : (method : Bool) (pool : PoolOf) (class : ℕ) (seen : List Key) (bytes : List ℕ) (h : Member) (rest : List ℕ) (new : Bool) (f : OnMember) (after : List ℕ) (r : ReadMember)
    → member_head_from method pool class bytes ≡ Ok (h, rest) → new ≡ not (has_key (key_of h) seen) → new ≡ true
    → counted_attributes_at (member_takes method pool) pool nothing_on_member rest ≡ Ok (f, after) → r ≡ record { member = h; found = f }
    → Ok (r, after) ≡ member_from method pool class seen bytes
unfolding member_from
member_good method pool class seen bytes h rest new f after r e n t a m =
    let k : has_key (key_of h) seen ≡ false = new_key new (has_key (key_of h) seen) n t in
    rw (e, k, a, m) refl

pub step_keys : (front : List ReadMember) (x : ReadMember) → read_keys (front ++ x ∷ []) ≡ read_keys front ++ key_of x.member ∷ []
step_keys front x = map_push (λ (r : ReadMember). key_of r.member) front x

pub members_step : (method : Bool) (pool : PoolOf) (class : ℕ) (front : List ReadMember) (n m : ℕ) (bytes : List ℕ) (x : ReadMember) (next : List ℕ) (total : Result (List ReadMember × List ℕ) Fault) → n ≡ suc m → member_from method pool class (read_keys front) bytes ≡ Ok (x, next)
    → with_front front (members_at method pool class (read_keys front) n bytes) ≡ total → with_front (front ++ x ∷ []) (members_at method pool class (read_keys (front ++ x ∷ [])) m next) ≡ total
unfolding members_at
members_step method pool class front n m bytes x next total k r h =
    let one : with_front front (members_at method pool class (read_keys front) n bytes) ≡ with_front (front ++ x ∷ []) (members_at method pool class (read_keys front ++ key_of x.member ∷ []) m next) = rw (k, r) (regroup front x (members_at method pool class (read_keys front ++ key_of x.member ∷ []) m next)) in
    ap (λ (ks : List Key). with_front (front ++ x ∷ []) (members_at method pool class ks m next)) (step_keys front x) ∙ sym one ∙ h

pub members_fault : (method : Bool) (pool : PoolOf) (class : ℕ) (front : List ReadMember) (seen : List Key) (n : ℕ) (bytes : List ℕ) (e : Fault) (total : Result (List ReadMember × List ℕ) Fault) → 0 < n → member_from method pool class seen bytes ≡ Err e
    → with_front front (members_at method pool class seen n bytes) ≡ total → Err e ≡ total
unfolding members_at
members_fault method pool class front seen n bytes e total p r h =
    let k : n ≡ suc (n - 1) = omega arith in
    let one : with_front front (members_at method pool class seen n bytes) ≡ Err e = rw (k, r) refl in
    sym one ∙ h

pub members_done : (method : Bool) (pool : PoolOf) (class : ℕ) (front : List ReadMember) (seen : List Key) (n : ℕ) (bytes : List ℕ) (total : Result (List ReadMember × List ℕ) Fault) → n ≡ 0
    → with_front front (members_at method pool class seen n bytes) ≡ total → Ok (front, bytes) ≡ total
unfolding members_at
members_done method pool class front seen n bytes total k h =
    let one : with_front front (members_at method pool class seen n bytes) ≡ Ok (front, bytes) = rw k (ap (λ (zs : List ReadMember). Ok (zs, bytes)) (append-nil front)) in
    sym one ∙ h
