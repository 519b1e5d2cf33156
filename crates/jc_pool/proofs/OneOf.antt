-- Either one pool is read, or one fault is met.
use Rattle.std.proofs.Common.{◌≡◌, ℕ, ◌-◌, List, length, Result, Ok, Err, refl, sym, ap, ◌∙◌, ◌⊎◌, inl, inr}
use Rattle.jc_desc.specs.declared.fault.Fault.{Fault}
use Rattle.jc_desc.specs.Pool.{PoolOf}
use Rattle.jc_desc.specs.PoolSteps.{pool_at}
use Rattle.jc_desc.proofs.Pools.{pool_is, pool_again}
use Rattle.jc_pool.specs.Law.{ReadsOne, HasOneFault}

reads_one : (bytes : List ℕ) (pool : PoolOf) (rest : List ℕ) → pool_at bytes ≡ Ok (pool, rest) → ReadsOne bytes
reads_one bytes pool rest e = record {
  pool = pool;
  offset = length bytes - length rest;
  reads = (rest, pool_is bytes (pool, rest) e, refl);
  one = λ p o h.
      let again : pool_at bytes ≡ Ok (p, h.0) = pool_again bytes p h.0 h.1 in
      let same : (p, h.0) ≡ (pool, rest) = cc in
      (ap (λ (x : PoolOf × List ℕ). x.0) same, h.2 ∙ ap (λ (x : PoolOf × List ℕ). length bytes - length x.1) same);
  no_fault = λ o r h. absurd (let k = h.1 in let q : Err h.0 ≡ Ok (pool, rest) = sym k ∙ e in cc);
}

one_fault : (bytes : List ℕ) (f : Fault) → pool_at bytes ≡ Err f → HasOneFault bytes
one_fault bytes f e = record {
  offset = length bytes - f.left;
  reason = f.reason;
  faulty = (f, e, refl, refl);
  one = λ o r h.
      let k = h.1 in
      let same : h.0 ≡ f = (let q : Err h.0 ≡ Err f = sym k ∙ e in cc) in
      (h.2 ∙ ap (λ (g : Fault). length bytes - g.left) same, h.3 ∙ ap (λ (g : Fault). g.reason) same);
  no_pool = λ p o h. absurd (let q : Ok (p, h.0) ≡ Err f = sym (pool_again bytes p h.0 h.1) ∙ e in cc);
}

pub one_of : (bytes : List ℕ) → ReadsOne bytes ⊎ HasOneFault bytes
one_of bytes = go (pool_at bytes) refl where
  go : (r : Result (PoolOf × List ℕ) Fault) → pool_at bytes ≡ r → ReadsOne bytes ⊎ HasOneFault bytes
  go (Ok (pool, rest)) e = inl (reads_one bytes pool rest e)
  go (Err f) e = inr (one_fault bytes f e)
