-- appends one after another
use Rattle.std.proofs.Common.{◌≡◌, ℕ, ◌+◌, ◌-◌, ◌≤◌, Bool, List, [], ◌∷◌, ◌++◌, map, length, sym, refl, ap, ◌∙◌, subst, arith, append_assoc, length-append}
use Rattle.std.specs.List.{range_with_len}
use Rattle.std.proofs.lemmas.List.{append-nil}
use Rattle.std.proofs.lemmas.List.FromFn.{length-map-range_with_len, map-range_with_len_more}
use Rattle.bitmap.specs.Appends.{Appends}
use Rattle.bitmap.specs.Bitmaps.{bits, bits_between}
use Rattle.bitmap.specs.declared.mutable.MutableBitmap.{MutableBitmap}
use Rattle.bitmap.proofs.Laws.{beyond_fewer}
use Rattle.bitmap.proofs.Runs.{map_counting_append}

pub between_none : (f : ℕ → Bool) (a : ℕ) → bits_between f a a ≡ []
between_none f a = let p : a - a ≡ 0 = omega arith in ap (λ t. map f (range_with_len a t)) p

pub appends_none : (b : MutableBitmap) → Appends b b []
appends_none b = record { count = omega arith; items = sym (append-nil (bits b.used b.buffer.now)); room = refl; home = refl; beyond = λ _ _. refl }

pub appends_start : (f : ℕ → Bool) (b : MutableBitmap) (a e : ℕ) → a ≡ e → Appends b b (bits_between f a e)
appends_start f b a e h = subst (Appends b b) (sym (between_none f a) ∙ ap (bits_between f a) h) (appends_none b)

pub appends_then : {a b c : MutableBitmap} {xs ys : List Bool} → Appends a b xs → Appends b c ys → Appends a c (xs ++ ys)
appends_then {a} {b} {c} {xs} {ys} p q = record {
  count = omega (arith, p.count, q.count, length-append xs ys);
  items = q.items ∙ ap (λ t. t ++ ys) p.items ∙ append_assoc (bits a.used a.buffer.now) xs ys;
  room = q.room ∙ p.room;
  home = q.home ∙ p.home;
  beyond = λ j h. q.beyond j h ∙ p.beyond j (beyond_fewer b.used c.used j (omega (arith, q.count)) h);
}

-- the bits from a up to b, and then those up to e
pub between_append : (f : ℕ → Bool) (a b e : ℕ) → a ≤ b → b ≤ e → bits_between f a b ++ bits_between f b e ≡ bits_between f a e
between_append f a b e h k =
    let p : a + (b - a) ≡ b = omega arith in
    let q : b - a + (e - b) ≡ e - a = omega arith in
    ap (λ t. bits_between f a b ++ map f (range_with_len t (e - b))) (sym p) ∙ sym (map_counting_append f a (b - a) (e - b)) ∙ ap (λ t. map f (range_with_len a t)) q

-- one bit more
pub between_more : (f : ℕ → Bool) (a i : ℕ) → a ≤ i → bits_between f a i ++ f i ∷ [] ≡ bits_between f a (i + 1)
between_more f a i h =
    let p : i - a + 1 ≡ i + 1 - a = omega arith in
    sym (map-range_with_len_more f a (i - a) i (omega arith)) ∙ ap (λ t. map f (range_with_len a t)) p

pub length_between : (f : ℕ → Bool) (a e : ℕ) → length (bits_between f a e) ≡ e - a
length_between f a e = length-map-range_with_len f a (e - a)
