-- One byte and one block more of an input. What is held of a line follows from the bytes that its buffer had; the lines themselves go on by `Ending`.
--   held_short, held_long: what the count says of a line
--   grown_none, grown_join: nothing is put to a line; twice something is
--   kept_stored, kept_dropped: one byte more of a line, with room in its buffer, and without
--   taken_begin: nothing is taken of nothing
--   takes_none, takes_join: no byte more, and two blocks
--   takes_end, takes_first, takes_second: one byte, by what it is and to which line it belongs
--   takes_over: nothing is taken once both lines are ended
--   takes_more, takes_rest, takes_whole: a block that is taken up to its byte i: one byte more, none more, and no more bytes
--   takes_one: the answer and the buffers are determined
use Prim.Native.Nat.{ℕ, suc, ◌+◌, ◌≤◌, ◌<◌, min, max}
use mathlib.Core.Path.{◌≡◌, refl, sym, ap, ◌∙◌, subst}
use mathlib.Core.List.{List, [], ◌∷◌, ◌++◌, append-nil, append_assoc}
use native.Mathlib.Omega.{arith}
use native.Mathlib.Numerals.{add-one}
use lib.ListN.{length, take, drop, set, get_or, length-append, length-set, take-append-drop}
use lib.Seq.{take_all, take-suc, take-suc-set, take-append-le, get_or-set_other, get_or-take}
use Rattle.scope.specs.Limits.{pattern_limit}
use Rattle.scope.specs.Operations.Buffers.{TailKept}
use Rattle.scope.specs.Lines.{first_line, second_line}
use Rattle.scope.proofs.Operations.Buffers.{tail_one}
use Rattle.take_lines.specs.declared.Line.{Line}
use Rattle.take_lines.specs.declared.Taking.{Taking}
use Rattle.take_lines.specs.Taking.{line_ends, ended, Held, Grown, GrownBy, Taken, TakesBlock}
use Rattle.take_lines.proofs.Ending.{ends_join, ends_end, ends_byte, first_over, first_end, first_byte, second_before, second_over, second_end, second_byte}

-- ---- one line

-- a line that may be a pattern stands in its buffer, whole
pub held_short : {s l : List ℕ} {n : ℕ} → Held s n l → n ≤ pattern_limit → (length s ≡ n) × (take n l ≡ s)
held_short {s} {l} {n} h few =
    let long : length s ≡ n = omega (arith, h.count) in
    let all : n ≡ min n pattern_limit = omega arith in (long, ap (λ k. take k l) all ∙ h.bytes ∙ take_all pattern_limit s (omega arith))

pub held_long : {s l : List ℕ} {n : ℕ} → Held s n l → pattern_limit < n → pattern_limit < length s
held_long h many = omega (arith, h.count)

pub grown_none : (n : ℕ) (l : List ℕ) → Grown n n l l
grown_none n l = record { more = omega arith; rest = record { size = refl; outside = λ i h. refl } }

pub grown_join : {n m k : ℕ} {a b c : List ℕ} → Grown n m a b → Grown m k b c → Grown n k a c
grown_join p q =
    record {
      more = omega arith;
      rest = record {
        size = q.rest.size ∙ p.rest.size;
        outside = λ i h. q.rest.outside i h ∙ p.rest.outside i (omega (arith, q.more));
      };
    }

pub kept_stored : (b n : ℕ) (l : List ℕ) → n < pattern_limit → pattern_limit ≤ length l → GrownBy b n (n + 1) l (set l n b)
kept_stored b n l few room =
    record {
      grown = record {
        more = omega arith;
        rest = record { size = length-set l n b; outside = λ i h. get_or-set_other l n i b 0 (omega arith) };
      };
      held = λ s h.
          let short = held_short h (omega arith) in
          let stored : min (n + 1) pattern_limit ≡ suc n = omega arith in
          record {
            count = omega (arith, length-append s (b ∷ []), short.0);
            bytes =
                ap (λ k. take k (set l n b)) stored ∙ take-suc-set l n b (omega arith) ∙ ap (λ t. t ++ (b ∷ [])) short.1
                ∙ sym (take_all pattern_limit (s ++ (b ∷ [])) (omega (arith, length-append s (b ∷ []), short.0)));
          };
    }

pub kept_dropped : (b n n' : ℕ) (l : List ℕ) → pattern_limit ≤ n → n' ≡ max n (pattern_limit + 1) → GrownBy b n n' l l
kept_dropped b n n' l many e =
    record {
      grown = record { more = omega arith; rest = record { size = refl; outside = λ i h. refl } };
      held = λ s h.
          let full : min n' pattern_limit ≡ min n pattern_limit = omega arith in
          record {
            count = omega (arith, length-append s (b ∷ []), h.count);
            bytes = ap (λ k. take k l) full ∙ h.bytes ∙ sym (take-append-le pattern_limit s (b ∷ []) (omega (arith, h.count)));
          };
    }

-- ---- both lines

pub taken_begin : (l r : List ℕ) → Taken [] (record { line = Line.First; first = 0; second = 0 }) l r
unfolding line_ends first_line second_line
taken_begin l r = record { line = refl; first = record { count = refl; bytes = refl }; second = record { count = refl; bytes = refl } }

pub takes_none : (t : Taking) (l r : List ℕ) → TakesBlock [] t t l l r r
takes_none t l r =
    record {
      left_grown = grown_none t.first l;
      right_grown = grown_none t.second r;
      taken = λ s h. subst (λ (u : List ℕ). Taken u t l r) (sym (append-nil s)) h;
    }

pub takes_join : {u v : List ℕ} {t p q : Taking} {a b c d e f : List ℕ} → TakesBlock u t p a b d e → TakesBlock v p q b c e f → TakesBlock (u ++ v) t q a c d f
takes_join {u} {v} {t} {p} {q} {a} {b} {c} {d} {e} {f} x y =
    record {
      left_grown = grown_join x.left_grown y.left_grown;
      right_grown = grown_join x.right_grown y.right_grown;
      taken = λ s h. subst (λ (w : List ℕ). Taken w q c f) (append_assoc s u v) (y.taken (s ++ u) (x.taken s h));
    }

pub takes_end : (b : ℕ) (t : Taking) (n : Line) (l r : List ℕ) → b ≡ 0x0A → ended n ≡ min (ended t.line + 1) 2
    → TakesBlock (b ∷ []) t (record { line = n; first = t.first; second = t.second }) l l r r
takes_end b t n l r e next =
    record {
      left_grown = grown_none t.first l;
      right_grown = grown_none t.second r;
      taken = λ s h.
          record {
            line = omega (arith, next, h.line, ends_end s b e);
            first = rw (first_end s b e) h.first;
            second = rw (second_end s b e) h.second;
          };
    }

pub takes_first : (b n : ℕ) (t : Taking) {l l' : List ℕ} (r : List ℕ) → (b ≡ 0x0A → ⊥) → t.line ≡ Line.First → GrownBy b t.first n l l'
    → TakesBlock (b ∷ []) t (record { line = t.line; first = n; second = t.second }) l l' r r
takes_first b n t {l} {l'} r e here k =
    record {
      left_grown = k.grown;
      right_grown = grown_none t.second r;
      taken = λ s h.
          let at : ended t.line ≡ 0 = ap ended here in
          let no_end : line_ends s ≡ 0 = omega (arith, h.line) in
          record {
            line = omega (arith, h.line, ends_byte s b e);
            first = rw (first_byte s b e no_end) (k.held (first_line s) h.first);
            second = rw (second_before s b no_end) h.second;
          };
    }

pub takes_second : (b n : ℕ) (t : Taking) (l : List ℕ) {r r' : List ℕ} → (b ≡ 0x0A → ⊥) → t.line ≡ Line.Second → GrownBy b t.second n r r'
    → TakesBlock (b ∷ []) t (record { line = t.line; first = t.first; second = n }) l l r r'
takes_second b n t l {r} {r'} e here k =
    record {
      left_grown = grown_none t.first l;
      right_grown = k.grown;
      taken = λ s h.
          let at : ended t.line ≡ 1 = ap ended here in
          let one_end : line_ends s ≡ 1 = omega (arith, h.line) in
          record {
            line = omega (arith, h.line, ends_byte s b e);
            first = rw (first_over s (b ∷ []) (omega arith)) h.first;
            second = rw (second_byte s b e one_end) (k.held (second_line s) h.second);
          };
    }

pub takes_over : (v : List ℕ) (t : Taking) (l r : List ℕ) → t.line ≡ Line.Further → TakesBlock v t t l l r r
takes_over v t l r here =
    record {
      left_grown = grown_none t.first l;
      right_grown = grown_none t.second r;
      taken = λ s h.
          let at : ended t.line ≡ 2 = ap ended here in
          let two : 2 ≤ line_ends s = omega (arith, h.line) in
          record {
            line = omega (arith, h.line, ends_join s v);
            first = rw (first_over s v (omega arith)) h.first;
            second = rw (second_over s v two) h.second;
          };
    }

-- ---- a block, byte by byte

module _ {t p : Taking} {a b d e : List ℕ} (block : List ℕ) (i : ℕ) (x : TakesBlock (take i block) t p a b d e) where
  pub takes_more : {q : Taking} {c f : List ℕ} → i < length block → TakesBlock (get_or block i 0 ∷ []) p q b c e f → TakesBlock (take (i + 1) block) t q a c d f
  takes_more h y = rw (add-one i, take-suc block i 0) (takes_join x y)

  pub takes_rest : p.line ≡ Line.Further → TakesBlock block t p a b d e
  takes_rest over = subst (λ (u : List ℕ). TakesBlock u t p a b d e) (take-append-drop i block) (takes_join x (takes_over (drop i block) p b e over))

  pub takes_whole : length block ≤ i → TakesBlock block t p a b d e
  takes_whole h = subst (λ (u : List ℕ). TakesBlock u t p a b d e) (take_all i block h) x

-- ---- what is determined

held_one : {s a b c : List ℕ} {m n : ℕ} → Held s m b → Held s n c → TailKept (min m pattern_limit) a b → TailKept (min n pattern_limit) a c → (m ≡ n) × (b ≡ c)
held_one {s} {a} {b} {c} {m} {n} x y p q =
    let same : m ≡ n = x.count ∙ sym y.count in (same, tail_one p (rw same q) (λ i h. sym (get_or-take (min m pattern_limit) b i 0 h) ∙ ap (λ l. get_or l i 0) (x.bytes ∙ sym y.bytes) ∙ get_or-take (min n pattern_limit) c i 0 (omega arith)))

-- a line is known by how many are ended
ended_one : (l m : Line) → ended l ≡ ended m → l ≡ m
ended_one Line.First Line.First e = refl
ended_one Line.Second Line.Second e = refl
ended_one Line.Further Line.Further e = refl
ended_one Line.First Line.Second e = absurd (omega arith)
ended_one Line.First Line.Further e = absurd (omega arith)
ended_one Line.Second Line.First e = absurd (omega arith)
ended_one Line.Second Line.Further e = absurd (omega arith)
ended_one Line.Further Line.First e = absurd (omega arith)
ended_one Line.Further Line.Second e = absurd (omega arith)

-- after an input there is one answer to a block, and one way to leave the buffers
pub takes_one : {u s a b c d e f : List ℕ} {t p q : Taking} → Taken s t a d → TakesBlock u t p a b d e → TakesBlock u t q a c d f → (p ≡ q) × (b ≡ c) × (e ≡ f)
takes_one {s = s} {p = p} {q = q} h x y =
    let v = x.taken s h in
    let w = y.taken s h in
    let first = held_one v.first w.first x.left_grown.rest y.left_grown.rest in
    let second = held_one v.second w.second x.right_grown.rest y.right_grown.rest in (
      ap (λ n. record { line = n; first = p.first; second = p.second }) (ended_one p.line q.line (v.line ∙ sym w.line))
          ∙ ap (λ n. record { line = q.line; first = n; second = p.second }) first.0
          ∙ ap (λ n. record { line = q.line; first = q.first; second = n }) second.0,
      first.1,
      second.1,
    )
