-- Packing is determined: the conditions exclude one another, and the form is a function of the room.
--   determined: two results of one call are equal, with every byte of every buffer
use Prim.Native.Nat.{ℕ}
use mathlib.Core.Path.{◌≡◌, refl, sym, ◌∙◌}
use mathlib.Core.List.{List}
use native.Mathlib.Omega.{arith}
use Rattle.scope.specs.Operations.Buffers.{Written}
use Rattle.scope.specs.Operations.Pack.{Packs, no_room, no_form, no_output, packed}
use Rattle.scope.proofs.Operations.Buffers.{written_one, cleared_one, untouched_one}

written_same : {m n : ℕ} {f : ℕ → ℕ} {old u v : List ℕ} → m ≡ n → Written m f old u → Written n f old v → u ≡ v
written_same {m} {n} {f} {old} {u} {v} e k l = let l' : Written m f old v = rw e l in written_one k l'

-- two results of one call: the numbers and lengths, the outputs, the scratch
module _ {room form u v bytes b c words w x : List ℕ} where
  pub determined : {i j n m : ℕ} → Packs room form u bytes b words w i n → Packs room form v bytes c words x j m → (i ≡ j) × (n ≡ m) × (u ≡ v) × (b ≡ c) × (w ≡ x)
  determined (no_room h k t) (no_room h' k' t') = let z = untouched_one t t' in (refl, refl, k ∙ sym k', z.0, z.1)
  determined (no_room h k t) (no_form l f k' t') = absurd (h l)
  determined (no_room h k t) (no_output l f s k' t') = absurd (h l)
  determined (no_room h k t) (packed l f n s k' t') = absurd (h l)
  determined (no_form l f k t) (no_room h' k' t') = absurd (h' l)
  determined (no_form l f k t) (no_form l' f' k' t') = let z = cleared_one t t' in (refl, refl, k ∙ sym k', z.0, z.1)
  determined (no_form l f k t) (no_output l' f' s' k' t') = absurd (f f')
  determined (no_form l f k t) (packed l' f' n' s' k' t') = absurd (f f')
  determined (no_output l f s k t) (no_room h' k' t') = absurd (h' l)
  determined (no_output l f s k t) (no_form l' f' k' t') = absurd (f' f)
  determined (no_output l f s k t) (no_output l' f' s' k' t') = let z = cleared_one t t' in (refl, refl, k ∙ sym k', z.0, z.1)
  determined (no_output l f s k t) (packed l' f' n' s' k' t') = absurd (omega arith)
  determined (packed l f n s k t) (no_room h' k' t') = absurd (h' l)
  determined (packed l f n s k t) (no_form l' f' k' t') = absurd (f' f)
  determined (packed l f n s k t) (no_output l' f' s' k' t') = absurd (omega arith)
  determined (packed l f n s k t) (packed l' f' n' s' k' t') =
      let e = n ∙ sym n' in
      let z = cleared_one t t' in
      (refl, e, written_same e k k', z.0, z.1)
