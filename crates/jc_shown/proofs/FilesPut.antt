-- Files put into a folder, one after the other.
use Rattle.std.proofs.Common.{◌≡◌, ◌≢◌, ◌≤◌, ◌<◌, ℕ, ◌+◌, suc, Bool, true, false, cond, List, [], ◌∷◌, ◌++◌, Option, Some, None, length, take, drop, get_or, refl, sym, ap, subst, ◌∙◌, All, append_assoc, arith}
use Rattle.std.proofs.Math.Seq.{take-append-add, take-append_seam}
use Rattle.std.proofs.lemmas.List.{append-nil, at_drop_more}
use Rattle.std.proofs.lemmas.List.Elements.{All-from_recursion, recursion_from_All}
use Rattle.jc_base.specs.States.{FolderState}
use Rattle.jc_facts.specs.Names.{Bytes, same}
use Rattle.jc_facts.proofs.Apart.{ApartRec}
use Rattle.jc_facts.proofs.Same.{same_is, same_itself}
use Rattle.jc_lemmas.proofs.Listed.{EachOf}
use Rattle.jc_shown.specs.Witness.{PutFile, HoldsFirst, HoldsFirstOf}
use Rattle.jc_shown.specs.steps.PutFiles.{held_after, IsNotFirst, HoldsAfter, IsPutInPart}

abbrev pub Held : Type 0
Held = Bytes → Option Bytes

-- ---- one after the other

-- nothing was put
no_put : (next : List PutFile) (a : Option Held) → HoldsAfter [] next a a
no_put next None = tt
no_put next (Some before) = λ path apart. refl

held_then : (path : Bytes) (held : Option Bytes) (xs ys : List PutFile) → held_after path held (xs ++ ys) ≡ held_after path (held_after path held xs) ys
held_then path held [] ys = refl
held_then path held (f ∷ xs) ys = held_then path (cond (same f.path path) (Some f.bytes) held) xs ys

holds_then : (a b c : Option Held) (xs ys next : List PutFile) → HoldsAfter xs [] a b → HoldsAfter ys next b c → HoldsAfter (xs ++ ys) next a c
holds_then None None None xs ys next h k = tt
holds_then None None (Some c) xs ys next h k = k
holds_then None (Some b) c xs ys next h k = absurd h
holds_then (Some a) None c xs ys next h k = absurd h
holds_then (Some a) (Some b) None xs ys next h k = k
holds_then (Some a) (Some b) (Some c) xs ys next h k = λ path apart.
    k path apart ∙ ap (λ (o : Option Bytes). held_after path o ys) (h path tt) ∙ sym (held_then path (a path) xs ys)

not_first : (xs ys : List PutFile) (path : Bytes) → IsNotFirst (xs ++ ys) path → IsNotFirst xs path
not_first [] ys path h = tt
not_first (f ∷ xs) ys path h = h

sooner : (a b : Option Held) (xs next more : List PutFile) → HoldsAfter xs next a b → HoldsAfter xs (next ++ more) a b
sooner None None xs next more h = tt
sooner None (Some b) xs next more h = h
sooner (Some a) None xs next more h = h
sooner (Some a) (Some b) xs next more h = λ path apart. h path (not_first next more path apart)

-- so many of the files were put, these are left, and the count of faults didn't fall
pub record IsPut (left all : List PutFile) (before now : FolderState) : Type 0 where
  pub put : List PutFile
  pub whole : put ++ left ≡ all
  pub held : HoldsAfter put [] before.content now.content
  pub never_falls : before.faults ≤ now.faults

pub put_nothing : (all : List PutFile) (a : FolderState) → IsPut all all a a
put_nothing all a = record { put = []; whole = refl; held = no_put [] a.content; never_falls = omega arith }

-- of files that are made of a list, the next element's come next
pub next_left : {A : Type 0} (files_of : List A → List PutFile) (xs : List A) (i : ℕ) (x : A) (all : List PutFile) (a b : FolderState) → i < length xs → x ≡ get_or xs i x
    → IsPut (files_of (drop i xs)) all a b → IsPut (files_of (x ∷ drop (i + 1) xs)) all a b
next_left {A} files_of xs i x all a b lt is h = subst (λ (fs : List PutFile). IsPut fs all a b) (at_drop_more files_of xs i x lt ∙ ap (λ (y : A). files_of (y ∷ drop (i + 1) xs)) (sym is)) h

pub put_more : (a b c : FolderState) (xs left all : List PutFile) → IsPut (xs ++ left) all a b → HoldsAfter xs [] b.content c.content → b.faults ≤ c.faults → IsPut left all a c
put_more a b c xs left all h k le = record {
  put = h.put ++ xs;
  whole = append_assoc h.put xs left ∙ h.whole;
  held = holds_then a.content b.content c.content h.put xs [] h.held k;
  never_falls = omega (arith, h.never_falls, le);
}

pub put_all : (a b : FolderState) (all : List PutFile) → IsPut [] all a b → HoldsAfter all [] a.content b.content
put_all a b all h = subst (λ (fs : List PutFile). HoldsAfter fs [] a.content b.content) (sym (append-nil h.put) ∙ h.whole) h.held

pub put_failed : (a b c : FolderState) (xs left all : List PutFile) → IsPut (xs ++ left) all a b → IsPutInPart xs (record { before = b; after = c }) → IsPutInPart all (record { before = a; after = c })
put_failed a b c xs left all h k = record {
  front = h.put ++ k.front;
  rest = k.rest ++ left;
  whole = sym h.whole ∙ ap (λ (fs : List PutFile). h.put ++ (fs ++ left)) k.whole ∙ ap (λ (fs : List PutFile). h.put ++ fs) (append_assoc k.front k.rest left) ∙ sym (append_assoc h.put k.front (k.rest ++ left));
  held = sooner a.content c.content (h.put ++ k.front) k.rest left (holds_then a.content b.content c.content h.put k.front k.rest h.held k.held);
}

-- ---- of files whose paths differ

-- a path of another file holds what it held
other_path : (x path : Bytes) (new held : Option Bytes) → x ≢ path → cond (same x path) new held ≡ held
other_path x path new held apart = go (same x path) refl
  where
    go : (b : Bool) → same x path ≡ b → cond b new held ≡ held
    go true e = absurd (apart (same_is x path e))
    go false e = refl

-- none of the files stands at the path
held_other : (path : Bytes) (held : Option Bytes) (fs : List PutFile) → EachOf (λ f. f.path ≢ path) fs → held_after path held fs ≡ held
held_other path held [] h = refl
held_other path held (f ∷ fs) h =
    held_other path (cond (same f.path path) (Some f.bytes) held) fs h.1 ∙ other_path f.path path (Some f.bytes) held h.0

-- each path of a list differs from this one
abbrev Differ : List PutFile → PutFile → Type 0
Differ fs f = EachOf (λ g. f.path ≢ g.path) fs

turned : (f : PutFile) (fs : List PutFile) → Differ fs f → EachOf (λ g. g.path ≢ f.path) fs
turned f [] h = tt
turned f (g ∷ fs) h = ((λ is. h.0 (sym is)), turned f fs h.1)

-- each file stands at its path once all are put
each_held : (before : Held) (fs : List PutFile) → ApartRec (λ (f : PutFile). f.path) fs → EachOf (λ (f : PutFile). (held : Option Bytes) → held_after f.path held fs ≡ Some f.bytes) fs
each_held before [] a = tt
each_held before (f ∷ fs) a = (first, others fs (each_held before fs a.1))
  where
    first : (held : Option Bytes) → held_after f.path held (f ∷ fs) ≡ Some f.bytes
    first held = held_other f.path (cond (same f.path f.path) (Some f.bytes) held) fs (turned f fs a.0) ∙ ap (λ (b : Bool). cond b (Some f.bytes) held) (same_itself f.path)

    others : (gs : List PutFile) → EachOf (λ (g : PutFile). (held : Option Bytes) → held_after g.path held fs ≡ Some g.bytes) gs → EachOf (λ (g : PutFile). (held : Option Bytes) → held_after g.path held (f ∷ fs) ≡ Some g.bytes) gs
    others [] h = tt
    others (g ∷ gs) h = ((λ held. h.0 (cond (same f.path g.path) (Some f.bytes) held)), others gs h.1)

-- the parts of a list whose paths differ
front_apart : (xs ys : List PutFile) → ApartRec (λ (f : PutFile). f.path) (xs ++ ys) → ApartRec (λ (f : PutFile). f.path) xs
front_apart [] ys a = tt
front_apart (f ∷ xs) ys a = (front f xs ys a.0, front_apart xs ys a.1)
  where
    front : (f : PutFile) (xs ys : List PutFile) → Differ (xs ++ ys) f → Differ xs f
    front f [] ys h = tt
    front f (g ∷ xs) ys h = (h.0, front f xs ys h.1)

not_next : (xs ys : List PutFile) → ApartRec (λ (f : PutFile). f.path) (xs ++ ys) → EachOf (λ f. IsNotFirst ys f.path) xs
not_next [] ys a = tt
not_next (f ∷ xs) ys a = (next f xs ys a.0, not_next xs ys a.1)
  where
    next : (f : PutFile) (xs ys : List PutFile) → Differ (xs ++ ys) f → IsNotFirst ys f.path
    next f [] [] h = tt
    next f [] (g ∷ ys) h = λ is. h.0 (sym is)
    next f (x ∷ xs) ys h = next f xs ys h.1

whole_each : (front rest : List PutFile) (before now : Held) → ((path : Bytes) → IsNotFirst rest path → now path ≡ held_after path (before path) front)
    → (fs : List PutFile) → EachOf (λ (f : PutFile). (held : Option Bytes) → held_after f.path held front ≡ Some f.bytes) fs → EachOf (λ f. IsNotFirst rest f.path) fs → EachOf (λ f. now f.path ≡ Some f.bytes) fs
whole_each front rest before now h [] e n = tt
whole_each front rest before now h (f ∷ fs) e n = (h f.path n.0 ∙ e.0 (before f.path), whole_each front rest before now h fs e.1 n.1)

first_parts : (xs ys : List PutFile) (path : Bytes) → EachOf (λ f. f.path ≢ path) (xs ++ take 1 ys) → EachOf (λ f. f.path ≢ path) xs × IsNotFirst ys path
first_parts [] [] path h = (tt, tt)
first_parts [] (y ∷ ys) path h = (tt, h.0)
first_parts (x ∷ xs) ys path h = let r = first_parts xs ys path h.1 in ((h.0, r.0), r.1)

holds_first : (front rest : List PutFile) (before now : Held) → ApartRec (λ (f : PutFile). f.path) (front ++ rest)
    → ((path : Bytes) → IsNotFirst rest path → now path ≡ held_after path (before path) front) → HoldsFirst (length front) (front ++ rest) before now
holds_first front rest before now a h = record {
  whole = subst (All (λ f. now f.path ≡ Some f.bytes)) (sym (take-append_seam front rest))
      (All-from_recursion (λ f. now f.path ≡ Some f.bytes) front (whole_each front rest before now h front (each_held before front (front_apart front rest a)) (not_next front rest a)));
  others = λ path apart.
      let one : suc (length front) ≡ length front + 1 = omega arith in
      let e : take (suc (length front)) (front ++ rest) ≡ front ++ take 1 rest = ap (λ n. take n (front ++ rest)) one ∙ take-append-add front rest 1 in
      let p = first_parts front rest path (recursion_from_All (λ f. f.path ≢ path) (front ++ take 1 rest) (subst (All (λ f. f.path ≢ path)) e apart)) in
      h path p.1 ∙ held_other path (before path) front p.0;
}

pub first_put : (front rest : List PutFile) (a b : Option Held) → ApartRec (λ (f : PutFile). f.path) (front ++ rest) → HoldsAfter front rest a b → HoldsFirstOf (length front) (front ++ rest) a b
first_put front rest None None p h = tt
first_put front rest None (Some now) p h = h
first_put front rest (Some before) None p h = h
first_put front rest (Some before) (Some now) p h = holds_first front rest before now p h

pub all_put : (fs : List PutFile) (a b : Option Held) → ApartRec (λ (f : PutFile). f.path) fs → HoldsAfter fs [] a b → HoldsFirstOf (length fs) fs a b
all_put fs a b p h =
    subst (λ (gs : List PutFile). HoldsFirstOf (length fs) gs a b) (append-nil fs) (first_put fs [] a b (subst (ApartRec (λ (f : PutFile). f.path)) (sym (append-nil fs)) p) h)

-- nothing is put where there are no files
pub none_put : (a : Option Held) → HoldsFirstOf 0 [] a a
none_put a = all_put [] a a tt (no_put [] a)
