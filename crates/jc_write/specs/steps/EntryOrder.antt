-- Entries that say the same are equal, and are fed alike to a hash.
use Rattle.std.specs.Prelude.{◌≡◌, ℕ, ◌++◌, true}
use Rattle.std.specs.Cmp.{IsEquivalence, decided}
use Rattle.std.specs.Hash as fed
use Rattle.std.proofs.Common.{ap, ◌∙◌, refl, sym}
use Rattle.std.proofs.lemmas.Bool.{and_parts, and_from, eqb-true, eq-eqb, false≢true}
use Rattle.std.proofs.lemmas.Slice.Eq.{bytes_eq-Decides}
use Rattle.jc_facts.specs.Names.{Bytes, same}
use Rattle.jc_facts.specs.written.PoolEntries.{PoolEntry, text, class, pair, member, same_entry}

pub entry_is : (e f : PoolEntry) → same_entry e f ≡ true → e ≡ f
entry_is (text a) (text b) h = ap (λ (x : Bytes). text x) ((bytes_eq-Decides a b).0 h)
entry_is (class a) (class b) h = ap (λ (x : Bytes). class x) ((bytes_eq-Decides a b).0 h)
entry_is (pair a b) (pair c d) h =
    let p = and_parts _ _ h in
    ap (λ (x : Bytes). pair x b) ((bytes_eq-Decides a c).0 p.0) ∙ ap (λ (x : Bytes). pair c x) ((bytes_eq-Decides b d).0 p.1)
entry_is (member t a b c) (member u d e f) h =
    let p = and_parts _ _ h in
    let q = and_parts _ _ p.0 in
    let r = and_parts _ _ q.0 in
    ap (λ (n : ℕ). member n a b c) (eqb-true t u r.0) ∙ ap (λ (x : Bytes). member u x b c) ((bytes_eq-Decides a d).0 r.1)
    ∙ ap (λ (x : Bytes). member u d x c) ((bytes_eq-Decides b e).0 q.1) ∙ ap (λ (x : Bytes). member u d e x) ((bytes_eq-Decides c f).0 p.1)
entry_is _ _ h = absurd (false≢true h)

itself : (x : Bytes) → same x x ≡ true
itself x = (bytes_eq-Decides x x).1 refl

pub entry_itself : (e : PoolEntry) → same_entry e e ≡ true
entry_itself (text a) = itself a
entry_itself (class a) = itself a
entry_itself (pair a b) = and_from _ _ (itself a) (itself b)
entry_itself (member t a b c) = and_from _ _ (and_from _ _ (and_from _ _ (eq-eqb t t refl) (itself a)) (itself b)) (itself c)

same_from : (e f : PoolEntry) → e ≡ f → same_entry e f ≡ true
same_from e f h = ap (λ (g : PoolEntry). same_entry e g) (sym h) ∙ entry_itself e

pub same_entry_equiv : IsEquivalence same_entry
same_entry_equiv = decided same_entry (λ e f. (entry_is e f, same_from e f))

-- what a hash is fed
abbrev pub entry_fed : PoolEntry → fed.HashWrites
entry_fed (text t) = fed.slice fed.u8 t
entry_fed (class c) = fed.slice fed.u8 c
entry_fed (pair n d) = fed.slice fed.u8 n ++ fed.slice fed.u8 d
entry_fed (member t c n d) = fed.slice fed.u8 c ++ fed.slice fed.u8 n ++ fed.slice fed.u8 d

pub entries_fed : (e f : PoolEntry) → same_entry e f ≡ true → entry_fed e ≡ entry_fed f
entries_fed e f h = ap (λ (g : PoolEntry). entry_fed g) (entry_is e f h)
