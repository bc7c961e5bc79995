-- What the given sets of an expression say: the masks in the byte sets are its holders, so the classes are its pattern classes, and the image that is made is
-- its own. The image is a part of the bytes: what is written there is what the bytes have from there on.
--   mask_holders, like_share: the mask of a byte, and when two bytes share a class
--   few_classes, many_classes: a grouping, or one that is refused, is one of the pattern classes
--   mapped: the classes of a grouping
--   part_length, put_all, put_tail: a part of the bytes, lent and written
--   built, built_classes: the answer
use Prim.Native.Nat.{ℕ, ◌+◌, ◌-◌, ◌^◌, ◌≤◌, ◌<◌}
use mathlib.Core.Path.{◌≡◌, sym, ap, ◌∙◌}
use mathlib.Core.Bool.{Bool, true}
use mathlib.Core.List.{List, ◌++◌, append-nil}
use mathlib.Core.Logic.{◌↔◌}
use native.Mathlib.Omega.{arith}
use borrow.Rule.Slice.PartMut.{put_mid, post_of, same_len_mid}
use lib.Bits.{bit_or}
use lib.ListN.{length, get_or, take, drop, length-drop}
use lib.Seq.{length-take-le, drop_at, drop-length, get_or-drop}
use Rattle.std.specs.Prelude.{Result, Ok, Err}
use Rattle.scope.specs.Limits.{byte_values, class_limit, position_limit, ways_at}
use Rattle.scope.specs.Text.Re.{Re}
use Rattle.scope.specs.Positions.Bits.{has, given, holders, final}
use Rattle.scope.specs.Operations.Buffers.{TailKept, Scratch}
use Rattle.scope.specs.Count.{Over}
use Rattle.scope.specs.Positions.Reached.{Share, ManyClasses, FewClasses}
use Rattle.scope.specs.Tests.{Tests}
use Rattle.scope.proofs.Positions.Bits.{holders_is, has_given, has_pow}
use Rattle.scope.proofs.Positions.Glushkov.{at_in}
use Rattle.scope.proofs.Positions.Moves.{same_bits, joined_is}
use Rattle.scope.proofs.Counting.Tests.{and, itself, equals, same_test}
use Rattle.scope.proofs.Operations.Buffers.{all_kept}
use Rattle.buffers.proofs.OneMore.{part_all}
use Rattle.sets.specs.Layout.{held, image_at}
use Rattle.sets.proofs.HeldBits.{bits_same}
use Rattle.byte_runs.specs.Runs.{Like}
use Rattle.byte_classes.specs.Group.{own_place, Grouped, TooMany}
use Rattle.byte_classes.specs.Masks.{mask_of, Masked}
use Rattle.byte_classes.proofs.NumbersMet.{within_all}
use Rattle.byte_classes.proofs.Classes.{class_below, class_used}
use Rattle.byte_classes.proofs.Masking.{mask_like}
use Rattle.determinise.specs.Image.{ClassMap, DescribedBy, ImageCase, ImageAnswer}
use Rattle.determinise.specs.Build.{Given, BuildOutcome, Builds}
use Rattle.answers.specs.declared.Excess.{Excess}

module _ (e : Re) (bytes words : List ℕ) (count last : ℕ) (null : Bool) (g : Given e bytes words count last null) where
  -- the mask of a byte has the positions that hold it
  pub mask_holders : (b : ℕ) → b < byte_values → mask_of bytes b count ≡ holders e 0 b
  mask_holders b l = same_bits (mask_of bytes b count) (holders e 0 b) (λ q. same_test _ _ (there q) (back q))
    where
      one : (p q : ℕ) → Tests (has (given (held bytes p b) (2 ^ (p + 1))) q) ((held bytes p b ≡ true) × (q ≡ p + 1))
      one p q = rw (has_given, has_pow) (and (itself (held bytes p b)) (equals (p + 1) q))

      there : (q : ℕ) → has (mask_of bytes b count) q ≡ true → has (holders e 0 b) q ≡ true
      there q x = let (p, h, y) = (joined_is _ count q).sound x in let (t, z) = (one p q).sound y in rw z (sym (g.holds p b h l) ∙ t)

      back : (q : ℕ) → has (holders e 0 b) q ≡ true → has (mask_of bytes b count) q ≡ true
      back q x =
          let i = at_in e 0 q b ((holders_is e 0 q b).sound x) in
          let z : q ≡ q - 1 + 1 = omega arith in
          let h : q - 1 < count = omega (arith, g.positions) in
          (joined_is _ count q).full (q - 1, h, (one (q - 1) q).full (g.holds (q - 1) b h l ∙ rw (← z) x, z))

  -- "every position holds both or neither"
  pub like_share : (a b : ℕ) → a < byte_values → b < byte_values → Like bytes count a b ↔ Share e a b
  like_share a b h l = (
    λ x. sym (mask_holders a h) ∙ mask_like bytes count a b x ∙ mask_holders b l,
    λ x p k. bits_same bytes p a b (g.holds p a k h ∙ ap (λ (n : ℕ). has n (p + 1)) x ∙ sym (g.holds p b k l)),
  )

  -- 65 bytes that differ
  pub many_classes : Over class_limit (λ (b : ℕ). b < byte_values) (Like bytes count) → ManyClasses e
  many_classes o = record {
    thing = o.thing;
    have = o.have;
    differ = λ i j l k x. o.differ i j l k ((like_share (o.thing i) (o.thing j) (o.have i (omega arith)) (o.have j k)).1 x);
  }

  module _ (map : List ℕ) (k : ℕ) (c : Grouped (Like bytes count) own_place map k) where
    -- each byte is like the first of its class
    pub few_classes : FewClasses e
    few_classes =
        let first = class_used c.classes in
        within_all (λ (b : ℕ). b < byte_values) (Share e) class_limit k (λ i h. (first i h).0) 0 c.few
        (λ b l. (get_or map b 0, class_below c.classes b l, λ h. (let (a, x, y) = first (get_or map b 0) h in (like_share b a l x).0 ((c.classes.same b a l x).0 (sym y)))))

    -- what determinising is given
    described : count ≤ position_limit → (masks : List ℕ) (finals : ℕ) → Masked bytes count map masks byte_values → finals ≡ bit_or last (given null 1)
        → DescribedBy e words masks map finals
    unfolding final
    described h masks finals m f = record {
      small = omega (arith, g.positions);
      follow = λ p l. g.follow p (omega (arith, g.positions));
      masks = λ b l. m.mask b l ∙ mask_holders b l;
      ends = rw (← g.ends, ← g.empty) f;
    }

-- the classes of a grouping
pub mapped : {R : ℕ → ℕ → Type 0} {map : List ℕ} {k : ℕ} → Grouped R own_place map k → ClassMap map k
mapped c = record {
  some = omega (arith, class_below c.classes 0 (omega arith));
  few = c.few;
  below = class_below c.classes;
  used = class_used c.classes;
}

-- ---- the part of the bytes from a on, lent, and written to ys

-- how long the part is
pub part_length : (a : ℕ) (s : List ℕ) → length (take (length s - a) (drop a s)) ≡ length s - a
part_length a s = ap length (part_all a s) ∙ length-drop a s

module _ (a n : ℕ) (s ys : List ℕ) (h : a ≤ length s) (t : TailKept n (take (length s - a) (drop a s)) ys) where
  -- from a on there is what was written
  pub put_all : drop a (put_mid a (length s - a) s ys) ≡ ys
  put_all = drop_at (take a s) (ys ++ post_of a (length s - a) s) a (length-take-le a s h)
      ∙ ap (λ (l : List ℕ). ys ++ l) (ap (λ (m : ℕ). drop m (drop a s)) (sym (length-drop a s)) ∙ drop-length (drop a s)) ∙ append-nil ys

  -- a tail of the part is one of the whole
  pub put_tail : TailKept (a + n) s (put_mid a (length s - a) s ys)
  put_tail = record {
    size = same_len_mid a (length s - a) s ys t.size;
    outside = λ i l. (let z : i ≡ a + (i - a) = omega arith in rw z (at (i - a) (omega arith)));
  }
    where
      at : (j : ℕ) → n ≤ j → get_or (put_mid a (length s - a) s ys) (a + j) 0 ≡ get_or s (a + j) 0
      at j l = sym (get_or-drop a (put_mid a (length s - a) s ys) j 0) ∙ ap (λ (x : List ℕ). get_or x j 0) put_all ∙ t.outside j l
          ∙ ap (λ (x : List ℕ). get_or x j 0) (part_all a s) ∙ get_or-drop a s j 0

-- ---- the answer

module _ {bytes words : List ℕ} (count last : ℕ) (null : Bool) (few : count ≤ position_limit) (long : Scratch bytes words) where
  -- too many classes
  pub built_classes : TooMany (Like bytes count) → Builds bytes words count last null bytes words (Err Excess.Classes)
  built_classes a = record {
    outcome = λ e g. many_classes e bytes words count last null g a;
    bytes_kept = all_kept _ _;
    words_kept = all_kept _ _;
  }

  -- the image, as a part of the bytes
  module _ {map : List ℕ} {k : ℕ} (groups : Grouped (Like bytes count) own_place map k) {masks : List ℕ} {finals : ℕ} {ys words' : List ℕ} {r : Result (Unit {0}) Excess}
      (m : Masked bytes count map masks byte_values) (f : finals ≡ bit_or last (given null 1))
      (x : ImageAnswer (take (length bytes - image_at) (drop image_at bytes)) words masks map finals ys words' r) where
    within : image_at ≤ length bytes
    within = omega (arith, long.bytes_long)

    case : (r : Result (Unit {0}) Excess) (e : Re) → FewClasses e → DescribedBy e words masks map finals → ImageCase words masks map finals ys r → BuildOutcome e ys r
    case (Ok u) e l d z = let (s, w, n) = z e d in record { sound = s; words = w; few_classes = l; few_sets = n }
    case (Err Excess.Classes) e l d z = absurd z
    case (Err Excess.States) e l d z = (l, z e d)

    pub built : Builds bytes words count last null (put_mid image_at (length bytes - image_at) bytes ys) words' r
    built = record {
      outcome = λ e g. rw (put_all image_at ways_at bytes ys within x.image)
          (case r e (few_classes e bytes words count last null g map k groups) (described e bytes words count last null g map k groups few masks finals m f) x.made);
      bytes_kept = put_tail image_at ways_at bytes ys within x.image;
      words_kept = x.words;
    }
