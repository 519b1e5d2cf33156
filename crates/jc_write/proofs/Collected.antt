-- What stands in a pool that is written, and what holds of each entry of it.
use Rattle.std.proofs.Common.{◌≡◌, suc, ◌<◌, Bool, true, false, cond, ◌&&◌, ◌||◌, List, [], ◌∷◌, ◌++◌, length, refl, sym, ◌∙◌, arith}
use Rattle.std.specs.List.{list_any, list_all, position_or_len}
use Rattle.std.proofs.lemmas.Bool.{and_parts, and_from}
use Rattle.std.proofs.lemmas.List.Folds.{list_any-append, list_all-append}
use Rattle.jc_facts.specs.written.PoolEntries.{PoolEntry, text, class, pair, member, same_entry, has, add, collected, with_parts, all_parts, is_good, class_is_good, pair_is_good, use_is_good}
use Rattle.jc_desc.specs.Utf8.{is_modified_utf8}
use Rattle.jc_desc.specs.Pool.{names_class, names_any_member}
use Rattle.jc_write.specs.steps.EntryOrder.{entry_itself}

-- ---- what holds of each entry that is collected holds of the pool

add_all : (p : PoolEntry → Bool) (pool : List PoolEntry) (e : PoolEntry) (b : Bool) → list_all p pool ≡ true → p e ≡ true → list_all p (cond b pool (pool ++ e ∷ [])) ≡ true
add_all p pool e true h k = h
add_all p pool e false h k = list_all-append p pool (e ∷ []) ∙ and_from _ _ h (and_from _ _ k refl)

pub collected_all : (p : PoolEntry → Bool) (pool es : List PoolEntry) → list_all p pool ≡ true → list_all p es ≡ true → list_all p (collected pool es) ≡ true
collected_all p pool [] h k = h
collected_all p pool (e ∷ es) h k =
    let b = and_parts _ _ k in
    collected_all p (add pool e) es (add_all p pool e (has pool e) h b.0) b.1

-- ---- each entry that is collected stands in the pool

add_kept : (q : PoolEntry) (pool : List PoolEntry) (e : PoolEntry) (b : Bool) → has pool q ≡ true → has (cond b pool (pool ++ e ∷ [])) q ≡ true
add_kept q pool e true h = h
add_kept q pool e false h = list_any-append (same_entry q) pool (e ∷ []) ∙ rw h refl

has_kept : (q : PoolEntry) (pool es : List PoolEntry) → has pool q ≡ true → has (collected pool es) q ≡ true
has_kept q pool [] h = h
has_kept q pool (e ∷ es) h = has_kept q (add pool e) es (add_kept q pool e (has pool e) h)

or_last : (a b : Bool) → b ≡ true → (a || (b || false)) ≡ true
or_last true b h = refl
or_last false b h = rw h refl

added : (pool : List PoolEntry) (e : PoolEntry) (b : Bool) → has pool e ≡ b → has (cond b pool (pool ++ e ∷ [])) e ≡ true
added pool e true h = h
added pool e false h = list_any-append (same_entry e) pool (e ∷ []) ∙ or_last (has pool e) (same_entry e e) (entry_itself e)

all_there : (pool es : List PoolEntry) → list_all (has (collected pool es)) es ≡ true
all_there pool [] = refl
all_there pool (e ∷ es) = and_from _ _ (has_kept e (add pool e) es (added pool e (has pool e) refl)) (all_there (add pool e) es)

-- ---- parts

-- the pool has the entries that this one names, and those that they name
abbrev pub has_parts : List PoolEntry → PoolEntry → Bool
has_parts pool (text t) = true
has_parts pool (class c) = has pool (text c)
has_parts pool (pair n d) = has pool (text n) && has pool (text d)
has_parts pool (member t c n d) = (has pool (text c) && has pool (class c)) && ((has pool (text n) && has pool (text d)) && has pool (pair n d))

split : (p : PoolEntry → Bool) (e : PoolEntry) (es : List PoolEntry) → list_all p (e ∷ es) ≡ true → (p e ≡ true) × (list_all p es ≡ true)
split p e es h = and_parts (p e) (list_all p es) h

one_closed : (pool : List PoolEntry) (e : PoolEntry) → list_all (has pool) (with_parts e) ≡ true → list_all (has_parts pool) (with_parts e) ≡ true
one_closed pool (text t) h = refl
one_closed pool (class c) h = let p = split (has pool) (text c) (class c ∷ []) h in rw p.0 refl
one_closed pool (pair n d) h =
    let p = split (has pool) (text n) (text d ∷ pair n d ∷ []) h in
    let q = split (has pool) (text d) (pair n d ∷ []) p.1 in
    rw (p.0, q.0) refl
one_closed pool (member t c n d) h =
    let p = split (has pool) (text c) (class c ∷ text n ∷ text d ∷ pair n d ∷ member t c n d ∷ []) h in
    let q = split (has pool) (class c) (text n ∷ text d ∷ pair n d ∷ member t c n d ∷ []) p.1 in
    let r = split (has pool) (text n) (text d ∷ pair n d ∷ member t c n d ∷ []) q.1 in
    let s = split (has pool) (text d) (pair n d ∷ member t c n d ∷ []) r.1 in
    let u = split (has pool) (pair n d) (member t c n d ∷ []) s.1 in
    rw (p.0, q.0, r.0, s.0, u.0) refl

all_closed : (pool es : List PoolEntry) → list_all (has pool) (all_parts es) ≡ true → list_all (has_parts pool) (all_parts es) ≡ true
all_closed pool [] h = refl
all_closed pool (e ∷ es) h =
    let p = and_parts _ _ (sym (list_all-append (has pool) (with_parts e) (all_parts es)) ∙ h) in
    list_all-append (has_parts pool) (with_parts e) (all_parts es) ∙ and_from _ _ (one_closed pool e p.0) (all_closed pool es p.1)

one_last : (pool : List PoolEntry) (e : PoolEntry) → list_all (has pool) (with_parts e) ≡ true → has pool e ≡ true
one_last pool (text t) h = (split (has pool) (text t) [] h).0
one_last pool (class c) h = let p = split (has pool) (text c) (class c ∷ []) h in (split (has pool) (class c) [] p.1).0
one_last pool (pair n d) h =
    let p = split (has pool) (text n) (text d ∷ pair n d ∷ []) h in
    let q = split (has pool) (text d) (pair n d ∷ []) p.1 in
    (split (has pool) (pair n d) [] q.1).0
one_last pool (member t c n d) h =
    let p = split (has pool) (text c) (class c ∷ text n ∷ text d ∷ pair n d ∷ member t c n d ∷ []) h in
    let q = split (has pool) (class c) (text n ∷ text d ∷ pair n d ∷ member t c n d ∷ []) p.1 in
    let r = split (has pool) (text n) (text d ∷ pair n d ∷ member t c n d ∷ []) q.1 in
    let s = split (has pool) (text d) (pair n d ∷ member t c n d ∷ []) r.1 in
    let u = split (has pool) (pair n d) (member t c n d ∷ []) s.1 in
    (split (has pool) (member t c n d) [] u.1).0

all_last : (pool es : List PoolEntry) → list_all (has pool) (all_parts es) ≡ true → list_all (has pool) es ≡ true
all_last pool [] h = refl
all_last pool (e ∷ es) h =
    let p = and_parts _ _ (sym (list_all-append (has pool) (with_parts e) (all_parts es)) ∙ h) in
    and_from _ _ (one_last pool e p.0) (all_last pool es p.1)

one_good : (e : PoolEntry) → is_good e ≡ true → list_all is_good (with_parts e) ≡ true
one_good (text t) h = rw h refl
one_good (class c) h = let p = and_parts (is_modified_utf8 c) (names_class c) h in rw (p.0, p.1) refl
one_good (pair n d) h =
    let p = and_parts (is_modified_utf8 n && is_modified_utf8 d) (names_any_member n d) h in
    let q = and_parts (is_modified_utf8 n) (is_modified_utf8 d) p.0 in
    rw (q.0, q.1, p.1) refl
one_good (member t c n d) h =
    let p = and_parts (class_is_good c && pair_is_good n d) (use_is_good t n d) h in
    let q = and_parts (class_is_good c) (pair_is_good n d) p.0 in
    let a = and_parts (is_modified_utf8 c) (names_class c) q.0 in
    let b = and_parts (is_modified_utf8 n && is_modified_utf8 d) (names_any_member n d) q.1 in
    let x = and_parts (is_modified_utf8 n) (is_modified_utf8 d) b.0 in
    rw (a.0, a.1, x.0, x.1, b.1, p.1) refl

all_good : (es : List PoolEntry) → list_all is_good es ≡ true → list_all is_good (all_parts es) ≡ true
all_good [] h = refl
all_good (e ∷ es) h =
    let p = and_parts _ _ h in
    list_all-append is_good (with_parts e) (all_parts es) ∙ and_from _ _ (one_good e p.0) (all_good es p.1)

-- ---- the whole pool

-- a pool in which each entry is good and has its parts, and which has all that is needed
pub record IsPoolFor (needs pool : List PoolEntry) : Type 0 where
  pub good : list_all is_good pool ≡ true
  pub closed : list_all (has_parts pool) pool ≡ true
  pub there : list_all (has pool) needs ≡ true

pub pool_serves : (needs : List PoolEntry) → list_all is_good needs ≡ true → IsPoolFor needs (collected [] (all_parts needs))
pool_serves needs h =
    let pool : List PoolEntry = collected [] (all_parts needs) in
    let there : list_all (has pool) (all_parts needs) ≡ true = all_there [] (all_parts needs) in
    record {
      good = collected_all is_good [] (all_parts needs) refl (all_good needs h);
      closed = collected_all (has_parts pool) [] (all_parts needs) refl (all_closed pool needs there);
      there = all_last pool needs there;
    }

-- ---- places

pub within : (p : PoolEntry → Bool) (xs : List PoolEntry) → list_any p xs ≡ true → position_or_len p xs < length xs
within p [] h = absurd cc
within p (x ∷ xs) h = go (p x) refl h (within p xs) where
  go : (b : Bool) → p x ≡ b → (b || list_any p xs) ≡ true → (list_any p xs ≡ true → position_or_len p xs < length xs) → position_or_len p (x ∷ xs) < suc (length xs)
  go true e k ih = rw e (omega arith)
  go false e k ih = let i = ih k in rw e (omega (arith, i))
