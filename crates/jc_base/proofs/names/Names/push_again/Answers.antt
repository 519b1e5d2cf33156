use Rattle.std.proofs.Common.{◌≡◌, ◌<◌, ◌++◌, ◌∷◌, [], List, ℕ, length, get_or, refl, sym, ap, ◌∙◌, arith}
use Rattle.std.specs.Prelude.{slice_get, Some, Result, Ok, Err, OnOk}
use Rattle.std.proofs.lemmas.Option.{slice_get_read}
use Rattle.jc_base.proofs.Again.{again_last}
use Rattle.jc_base.proofs.names.Names.push_again.Goals as goal

there : (xs ys : List (List ℕ)) (at : ℕ) (x : List ℕ) → xs ≡ ys → at < length ys → x ≡ get_or xs at x → slice_get ys at ≡ Some x
there xs ys at x e l h = ap (λ (zs : List (List ℕ)). slice_get zs at) (sym e) ∙ slice_get_read xs (length xs) at x refl (omega (arith, l, ap length e)) h

pub keep-requires : goal.keep-requires
keep-requires c =
    again_last c.args.self.now c.push.new.self c.in_ok-name.name (length c.as_slice-names.result.now) c.args.earlier c.in_ok-push.ensures (ap length c.as_slice-names.ensures)
    (there c.as_slice-names.result.now c.args.self.now c.args.earlier c.index-names-earlier.result c.as_slice-names.ensures c.requires c.index-names-earlier.is ∙ ap Some (sym c.in_ok-name.ensures))

pub returns : goal.returns
returns c = go c.keep.result (λ x h.
    let is : Some c.index-names-earlier.result ≡ Some x = sym (there c.as_slice-names.result.now c.args.self.now c.args.earlier c.index-names-earlier.result c.as_slice-names.ensures c.requires c.index-names-earlier.is) ∙ h in
    let same : c.index-names-earlier.result ≡ x = cc in
    c.keep.ensures ∙ c.in_ok-push.ensures ∙ ap (λ (z : List ℕ). c.args.self.now ++ z ∷ []) (c.in_ok-name.ensures ∙ same))
  where
    go : {T E P : Type 0} (r : Result T E) → P → OnOk r P
    go (Ok x) p = p
    go (Err e) p = tt
