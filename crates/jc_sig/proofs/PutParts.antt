-- The arguments of a part are put between < and >.
use Rattle.std.proofs.Common.{◌≡◌, ℕ, suc, zero, false, nat_eq, List, [], ◌∷◌, ◌++◌, length, sym, ap, ◌∙◌, append_assoc, arith, rules}
use Rattle.jc_sig.specs.declared.tree.Argument.{Argument, the_lemmas}
use Rattle.jc_sig.specs.declared.tree.Part.{Part}
use Rattle.jc_sig.specs.Trees.{PartTree, part_tree, part_text, list_text}
use Rattle.jc_sig.specs.Views.{part_view, arguments_view}

view-Part : (p : Part) → part_view p ≡ part_tree p.name (arguments_view p.arguments.items)
view-Part p = search (rules, the_lemmas)

opened : (name : List ℕ) (args : List Argument) (n : ℕ) → length args ≡ n → false ≡ nat_eq n 0 → part_text (part_tree name (arguments_view args)) ≡ name ++ 60 ∷ (list_text (arguments_view args) ++ 62 ∷ [])
opened name [] zero l e = absurd (cc)
opened name [] (suc n) l e = absurd (omega arith)
opened name (a ∷ args) n l e = simp append_assoc

pub begun : (out named front name : List ℕ) (p : Part) (items : List Argument) (n : ℕ) → named ≡ out ++ name → name ≡ p.name → front ≡ named ++ 60 ∷ [] → items ≡ p.arguments.items → length p.arguments.items ≡ n → false ≡ nat_eq n 0
    → front ++ (list_text (arguments_view items) ++ 62 ∷ []) ≡ out ++ part_text (part_view p)
begun out named front name p items n en ep eb ei l e =
    let text : List ℕ = list_text (arguments_view p.arguments.items) ++ 62 ∷ [] in
    let whole : ((out ++ p.name) ++ 60 ∷ []) ++ text ≡ out ++ (p.name ++ 60 ∷ text) = simp append_assoc in
    rw (eb, en, ep, ei) (whole ∙ ap (λ (bs : List ℕ). out ++ bs) (sym (ap (λ (t : PartTree). part_text t) (view-Part p) ∙ opened p.name p.arguments.items n l e)))
