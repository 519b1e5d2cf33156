-- Of the clients of a tree exactly one thing is said, with exactly one list of numbers, and what `link` says bears it out.
use Rattle.std.proofs.Common.{◌≡◌, ◌∙◌, inl, inr, ◌+◌, ℕ, List, [], ◌∷◌, refl, sym, ap, subst, Option, Some, None}
use Rattle.std.specs.List.{AllZip}
use Rattle.jc_base.specs.Outside.{FileOf}
use Rattle.jc_facts.specs.declared.client.ClientClass.{ClientClass}
use Rattle.jc_facts.specs.Names.{Bytes}
use Rattle.jc_facts.specs.world.World.{World}
use Rattle.jc_answers.specs.Answers.{answer_by, answer_of}
use Rattle.jc_answers.specs.Numbered.{IsNumbered, of_losses, of_none, AreNumbered, numbers_by}
use Rattle.jc_answers.specs.Said.{IsSaid, of_clients, of_fault, AreSaid, AreLosses, AreBorneOut}
use Rattle.jc_answers.specs.declared.answer.Answer.{Answer}
use Rattle.jc_answers.specs.declared.answer.Answer.TheVariants as answers
use Rattle.jc_link.specs.declared.refusal.ClientPart.{ClientPart}
use Rattle.jc_losses.specs.JudgedOf.{losses_of, refused_by_either, judged_by}
use Rattle.jc_losses.proofs.Both.{losses_are_of_both}
use Rattle.jc_losses.specs.declared.losses.Judged.{Judged}
use Rattle.jc_losses.specs.Ground.{JudgeAlike}
use Rattle.jc_losses.proofs.InOneList.{judged_alike}
use Rattle.jc_releases.specs.Command.{client_trees}
use Rattle.jc_releases.specs.declared.stop.Stop.TheVariants as stops
use Rattle.jc_trees.specs.ReadTrees.{Gives}
use Rattle.jc_trees.specs.Tree.{TreeOf, clients_at}
use Rattle.jc_trees.specs.declared.tree.TreeKind.TheVariants as kinds
use Rattle.jc_trees.specs.declared.tree.TreeName.TheVariants as names
use Rattle.jc_trees.specs.declared.tree_read.TreeRead.{TreeRead}
use Rattle.jc_trees.specs.declared.tree_read.TreeRead.TheVariants as reads
use Rattle.jc_trees.proofs.OneFault.{one_tree_fault, clean_fault}
use Rattle.jc_trees.proofs.OneRead.{one_given, clean_given}
use Rattle.jc_trees.proofs.SomeTrees.{TreeIsRead, some_tree, gives}
use Rattle.jc_used.specs.declared.line.Line.{Line}

same_clients : (cs ds : List ClientClass) → reads.Clients cs ≡ reads.Clients ds → cs ≡ ds
same_clients cs ds e = cc

-- what stands for each tree stands once, where it does for one
one_zip : {B : Type 0} (R : TreeOf → B → Type 0) → ((t : TreeOf) (x y : B) → R t x → R t y → x ≡ y) → (trees : List TreeOf) (a b : List B) → AllZip R trees a → AllZip R trees b → a ≡ b
one_zip R one [] [] [] h k = refl
one_zip R one [] [] (s ∷ b) h k = absurd k
one_zip R one [] (r ∷ a) b h k = absurd h
one_zip R one (t ∷ trees) [] b h k = absurd h
one_zip R one (t ∷ trees) (r ∷ a) [] h k = absurd k
one_zip {B} R one (t ∷ trees) (r ∷ a) (s ∷ b) h k = ap (λ (x : B). x ∷ a) (one t r s h.0 k.0) ∙ ap (λ (xs : List B). s ∷ xs) (one_zip R one trees a b h.1 k.1)

-- and stands for other worlds where it does for these
zip_alike : {B : Type 0} (R S : TreeOf → B → Type 0) → ((t : TreeOf) (x : B) → R t x → S t x) → (trees : List TreeOf) (all : List B) → AllZip R trees all → AllZip S trees all
zip_alike R S f [] [] h = tt
zip_alike R S f [] (x ∷ xs) h = absurd h
zip_alike R S f (t ∷ trees) [] h = absurd h
zip_alike R S f (t ∷ trees) (x ∷ xs) h = (f t x h.0, zip_alike R S f trees xs h.1)

module _ (files : List FileOf) (O N : World) where
  -- ---- no two

  one_said : (tree : TreeOf) (a b : Answer) → IsSaid files O N tree a → IsSaid files O N tree b → a ≡ b
  one_said tree a b (of_clients cs g e) (of_clients ds k f) =
      e ∙ ap (answer_of O N) (same_clients cs ds (one_given files tree (reads.Clients cs) (reads.Clients ds) g k)) ∙ sym f
  one_said tree a b (of_clients cs g e) (of_fault y k f) = absurd (clean_fault files tree y (clean_given files tree (reads.Clients cs) g) k)
  one_said tree a b (of_fault x g e) (of_clients ds k f) = absurd (clean_fault files tree x (clean_given files tree (reads.Clients ds) k) g)
  one_said tree a b (of_fault x g e) (of_fault y k f) = e ∙ ap (λ z. answers.Refused (stops.Unread names.Client z)) (one_tree_fault files tree x y g k) ∙ sym f

  pub all_said : (trees : List TreeOf) (a b : List Answer) → AreSaid files O N trees a → AreSaid files O N trees b → a ≡ b
  all_said trees a b h k = one_zip (IsSaid files O N) one_said trees a b h k

  one_numbered : (lines : Option (List Line)) (tree : TreeOf) (a b : List (Option ℕ)) → IsNumbered files O N lines tree a → IsNumbered files O N lines tree b → a ≡ b
  one_numbered lines tree a b (of_losses cs g e) (of_losses ds k f) =
      e ∙ ap (λ (es : List ClientClass). numbers_by lines es (answer_of O N es)) (same_clients cs ds (one_given files tree (reads.Clients cs) (reads.Clients ds) g k)) ∙ sym f
  one_numbered lines tree a b (of_losses cs g e) (of_none y k f) = absurd (clean_fault files tree y (clean_given files tree (reads.Clients cs) g) k)
  one_numbered lines tree a b (of_none x g e) (of_losses ds k f) = absurd (clean_fault files tree x (clean_given files tree (reads.Clients ds) k) g)
  one_numbered lines tree a b (of_none x g e) (of_none y k f) = e ∙ sym f

  pub all_numbered : (lines : Option (List Line)) (trees : List TreeOf) (a b : List (List (Option ℕ))) → AreNumbered files O N lines trees a → AreNumbered files O N lines trees b → a ≡ b
  all_numbered lines trees a b h k = one_zip (IsNumbered files O N lines) (one_numbered lines) trees a b h k

  -- ---- borne out

  by_losses : (cs : List ClientClass) (o : Option (Bytes × ClientPart)) → AreLosses O N cs (answer_by (judged_by o (losses_of O N cs)))
  by_losses cs None = losses_are_of_both O N cs
  by_losses cs (Some r) = tt

  said_is_borne_out : (tree : TreeOf) (a : Answer) → IsSaid files O N tree a → (ds : List ClientClass) → Gives files tree (reads.Clients ds) → AreLosses O N ds a
  said_is_borne_out tree a (of_clients cs g e) ds k =
      subst (AreLosses O N ds) (sym e) (subst (λ (es : List ClientClass). AreLosses O N es (answer_of O N cs)) (same_clients cs ds (one_given files tree (reads.Clients cs) (reads.Clients ds) g k)) (by_losses cs (refused_by_either O N cs)))
  said_is_borne_out tree a (of_fault x g e) ds k = absurd (clean_fault files tree x (clean_given files tree (reads.Clients ds) k) g)

  pub all_borne_out : (trees : List TreeOf) (all : List Answer) → AreSaid files O N trees all → AreBorneOut files O N trees all
  all_borne_out [] [] h = tt
  all_borne_out [] (a ∷ all) h = absurd h
  all_borne_out (t ∷ trees) [] h = absurd h
  all_borne_out (t ∷ trees) (a ∷ all) h = (said_is_borne_out t a h.0, all_borne_out trees all h.1)

  -- ---- one

  by_read : (tree : TreeOf) → tree.kind ≡ kinds.Clients → (read : TreeRead) → Gives files tree read → (a : Answer) × IsSaid files O N tree a
  by_read tree is (reads.Clients cs) g = (answer_of O N cs, of_clients cs g refl)
  by_read tree is (reads.Library rs) g = absurd (let clash : kinds.Library ≡ kinds.Clients = sym g.0 ∙ is in cc)
  by_read tree is (reads.Modular m) g = absurd (let clash : kinds.Modular ≡ kinds.Clients = sym g.0 ∙ is in cc)

  some_said : (tree : TreeOf) → tree.kind ≡ kinds.Clients → (a : Answer) × IsSaid files O N tree a
  some_said tree is = go (some_tree files tree)
    where
      go : TreeIsRead files tree → (a : Answer) × IsSaid files O N tree a
      go (inl h) = let g = gives files tree h.0 h.1 kinds.Clients is in by_read tree is g.0 g.1
      go (inr h) = (answers.Refused (stops.Unread names.Client h.0), of_fault h.0 h.1 refl)

  numbered_by_read : (lines : Option (List Line)) (tree : TreeOf) → tree.kind ≡ kinds.Clients → (read : TreeRead) → Gives files tree read → (ns : List (Option ℕ)) × IsNumbered files O N lines tree ns
  numbered_by_read lines tree is (reads.Clients cs) g = (numbers_by lines cs (answer_of O N cs), of_losses cs g refl)
  numbered_by_read lines tree is (reads.Library rs) g = absurd (let clash : kinds.Library ≡ kinds.Clients = sym g.0 ∙ is in cc)
  numbered_by_read lines tree is (reads.Modular m) g = absurd (let clash : kinds.Modular ≡ kinds.Clients = sym g.0 ∙ is in cc)

  some_numbered : (lines : Option (List Line)) (tree : TreeOf) → tree.kind ≡ kinds.Clients → (ns : List (Option ℕ)) × IsNumbered files O N lines tree ns
  some_numbered lines tree is = go (some_tree files tree)
    where
      go : TreeIsRead files tree → (ns : List (Option ℕ)) × IsNumbered files O N lines tree ns
      go (inl h) = let g = gives files tree h.0 h.1 kinds.Clients is in numbered_by_read lines tree is g.0 g.1
      go (inr h) = ([], of_none h.0 h.1 refl)

  pub some_numbers : (lines : Option (List Line)) (n : ℕ) (roots : List Bytes) → (all : List (List (Option ℕ))) × AreNumbered files O N lines (client_trees n roots) all
  some_numbers lines n [] = ([], tt)
  some_numbers lines n (root ∷ roots) =
      let one = some_numbered lines (clients_at (names.NthClient n) root) refl in
      let more = some_numbers lines (n + 1) roots in
      (one.0 ∷ more.0, (one.1, more.1))

  pub some_answers : (n : ℕ) (roots : List Bytes) → (all : List Answer) × AreSaid files O N (client_trees n roots) all
  some_answers n [] = ([], tt)
  some_answers n (root ∷ roots) =
      let one = some_said (clients_at (names.NthClient n) root) refl in
      let more = some_answers (n + 1) roots in
      (one.0 ∷ more.0, (one.1, more.1))

-- ---- sides over which clients are judged alike

module _ (files : List FileOf) (O P N Q : World) (a : JudgeAlike O P) (b : JudgeAlike N Q) where
  said_alike : (tree : TreeOf) (answer : Answer) → IsSaid files O N tree answer → IsSaid files P Q tree answer
  said_alike tree answer (of_clients cs g e) = of_clients cs g (e ∙ ap answer_by (judged_alike O P N Q a b cs))
  said_alike tree answer (of_fault x g e) = of_fault x g e

  pub all_alike : (trees : List TreeOf) (all : List Answer) → AreSaid files O N trees all → AreSaid files P Q trees all
  all_alike trees all h = zip_alike (IsSaid files O N) (IsSaid files P Q) said_alike trees all h

  numbered_alike : (lines : Option (List Line)) (tree : TreeOf) (numbers : List (Option ℕ)) → IsNumbered files O N lines tree numbers → IsNumbered files P Q lines tree numbers
  numbered_alike lines tree numbers (of_losses cs g e) = of_losses cs g (e ∙ ap (λ (x : Judged). numbers_by lines cs (answer_by x)) (judged_alike O P N Q a b cs))
  numbered_alike lines tree numbers (of_none x g e) = of_none x g e

  pub numbers_alike : (lines : Option (List Line)) (trees : List TreeOf) (all : List (List (Option ℕ))) → AreNumbered files O N lines trees all → AreNumbered files P Q lines trees all
  numbers_alike lines trees all h = zip_alike (IsNumbered files O N lines) (IsNumbered files P Q lines) (numbered_alike lines) trees all h
