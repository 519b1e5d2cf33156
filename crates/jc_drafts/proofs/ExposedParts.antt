-- The descriptor of what is put for exposing acts, from its parts.
use Rattle.std.proofs.Common.{◌≡◌, ◌+◌, List, [], ◌∷◌, ◌++◌, map, sym, ap, ◌∙◌, append_assoc}
use Rattle.std.proofs.lemmas.List.{append-nil}
use Rattle.jc_desc.specs.Types.{type_text, types_text}
use Rattle.jc_facts.specs.Names.{Bytes}
use Rattle.jc_promises.specs.plan.Planned.{class_type, turns_behind}

-- the types of classes and of one more
types_last : (xs : List Bytes) (x : Bytes) → types_text (map class_type (xs ++ x ∷ [])) ≡ types_text (map class_type xs) ++ type_text (class_type x)
types_last [] x = append-nil (type_text (class_type x))
types_last (y ∷ ys) x = ap (λ (s : Bytes). type_text (class_type y) ++ s) (types_last ys x) ∙ sym (append_assoc (type_text (class_type y)) (types_text (map class_type ys)) (type_text (class_type x)))

-- the descriptor from its parts
pub turns_parts : (rs : List Bytes) (s t : Bytes) → (((40 ∷ [] ++ types_text (map class_type rs)) ++ type_text (class_type s)) ++ 41 ∷ []) ++ type_text (class_type t) ≡ turns_behind rs s t
turns_parts rs s t =
    append_assoc ((40 ∷ [] ++ types_text (map class_type rs)) ++ type_text (class_type s)) (41 ∷ []) (type_text (class_type t))
    ∙ ap (λ (x : Bytes). 40 ∷ (x ++ 41 ∷ type_text (class_type t))) (sym (types_last rs s))
