-- What is taken from the front of what trees are read as.
--     first_of_kind      the first tree was read so
--     rest_of_kinds      the kinds of the others
--     none_left      where there are no more kinds, nothing is left
--     all_libraries      where all trees are libraries, records were read of each
use Rattle.std.proofs.Common.{◌≡◌, ◌∙◌, List, [], ◌∷◌, map, refl, sym, ap, subst}
use Rattle.std.specs.List.{All}
use Rattle.std.proofs.lemmas.List.Elements.{All-from_recursion, recursion_from_All}
use Rattle.jc_trees.specs.ClassLists.{IsReadList, StartsAs, kind_of}
use Rattle.jc_trees.specs.declared.tree.TreeKind.{TreeKind}
use Rattle.jc_trees.specs.declared.tree_read.TreeRead.{TreeRead}

pub first_of_kind : (all : List TreeRead) (kind : TreeKind) (others : List TreeKind) → map kind_of all ≡ kind ∷ others → StartsAs kind all
first_of_kind [] kind others h = absurd (cc)
first_of_kind (r ∷ rest) kind others h = let e : kind_of r ≡ kind = cc in e

pub rest_of_kinds : (all rest : List TreeRead) (read : TreeRead) (kind : TreeKind) (others : List TreeKind) → map kind_of all ≡ kind ∷ others → all ≡ read ∷ rest → map kind_of rest ≡ others
rest_of_kinds all rest read kind others h is = let e : kind_of read ∷ map kind_of rest ≡ kind ∷ others = sym (ap (map kind_of) is) ∙ h in cc

pub none_left : (all : List TreeRead) → map kind_of all ≡ [] → all ≡ []
none_left [] h = refl
none_left (r ∷ rest) h = absurd (cc)

-- what is read of each of these is a list as it has to be
pub rest_of_lists : (all rest : List TreeRead) (read : TreeRead) → All IsReadList all → all ≡ read ∷ rest → IsReadList read × All IsReadList rest
rest_of_lists all rest read h is =
    let e = recursion_from_All IsReadList (read ∷ rest) (subst (All IsReadList) is h) in
    (e.0, All-from_recursion IsReadList rest e.1)
