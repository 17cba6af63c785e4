-- One step of `cuts` and of `split`, on a list and at a place; and induction by elements. Assumes nothing.
use mathlib.Core.Path.{◌≡◌, refl, sym, ap, subst, ◌∙◌}
use mathlib.Core.List.{List, [], ◌∷◌}
use mathlib.Core.Option.{Option, none, some}
use mathlib.Core.Bool.{Bool, true, false, cond}
use Prim.Native.Nat.{ℕ, zero, suc, ◌+◌, ◌-◌, ◌≤◌, ◌<◌}
use native.Mathlib.Nat.{le_refl, not-suc-le-zero}
use native.Mathlib.Omega.{arith}
use borrow.Author.Tests.{leb-true}
use lib.Dec.{leb}
use lib.ListN.{length, take, drop, get_or, length-drop}
use lib.Seq.{drop-drop, length-take-le}
use Rattle.tlv.specs.Number.{Num, unreadable, num, number}
use Rattle.tlv.specs.Element.{Element, First, first, end, malformed, element, typed, sized, type_in_range, Cuts, done, broken, next, after}
use Rattle.tlv.specs.Element.{cuts_by, cuts, also, split}
use Rattle.tlv.specs.Answers.{read_at, read_from}
use Rattle.tlv.specs.declared.Place.{Place}
use Rattle.tlv.specs.declared.Read.{Read}
use Rattle.tlv.specs.declared.Read.TheVariants.{Found, End, Malformed}
use Rattle.tlv.proofs.Numbers.{number_size, byte}
use Rattle.tlv.proofs.AtPlace.{found, type_ok}

-- what an element that was found says of the list
pub record Whole (b : List ℕ) (h : ℕ) (e : Element) (rest : List ℕ) : Type 0 where
  pub type_size : ℕ
  pub length-size : ℕ
  pub size : ℕ
  pub typed_is : number b ≡ num e.type type_size
  pub sized_is : number (drop type_size b) ≡ num size length-size
  pub ok : type_in_range e.type ≡ true
  pub some : 0 < h
  pub head : h ≡ type_size + length-size
  pub within : h + size ≤ length b
  pub inside_is : e.inside ≡ take size (drop h b)
  pub inside_length : length e.inside ≡ size
  pub rest_is : rest ≡ drop (h + size) b

malformed_first : {h : ℕ} {e : Element} {rest : List ℕ} → malformed ≡ first h e rest → ⊥
malformed_first p = let z : ◌≡◌ {A = ℕ} 0 1 = cc in omega arith

end_first : {h : ℕ} {e : Element} {rest : List ℕ} → end ≡ first h e rest → ⊥
end_first p = let z : ◌≡◌ {A = ℕ} 0 1 = cc in omega arith

cond_first : (t : Bool) (x : First) {h : ℕ} {e : Element} {rest : List ℕ} → cond t x malformed ≡ first h e rest
    → (t ≡ true) × (x ≡ first h e rest)
cond_first true x p = (refl, p)
cond_first false x p = absurd (malformed_first p)

module _ (b : List ℕ) {h : ℕ} {e : Element} {rest : List ℕ} where
  sized_whole : (t k : ℕ) → number b ≡ num t k → type_in_range t ≡ true → (m : Num) → number (drop k b) ≡ m
      → sized b t k m ≡ first h e rest → Whole b h e rest
  unfolding sized
  sized_whole t k q r unreadable q' p = absurd (malformed_first p)
  sized_whole t k q r (num n j) q' p =
      let c = cond_first (leb n (length b - (k + j))) _ p in
      let le : n ≤ length b - (k + j) = leb-true _ _ c.0 in
      let s1 = number_size b t k q in
      let s2 = simp length-drop at (number_size (drop k b) n j q') in
      let eh : h ≡ k + j = cc in
      let et : e.type ≡ t = cc in
      let ei : e.inside ≡ take n (drop (k + j) b) = cc in
      let er : rest ≡ drop (k + j + n) b = cc in
      record {
        type_size = k;
        length-size = j;
        size = n;
        typed_is = rw et q;
        sized_is = q';
        ok = rw et r;
        some = omega arith;
        head = eh;
        within = omega arith;
        inside_is = rw eh ei;
        inside_length = rw ei (length-take-le n _ (rw length-drop le));
        rest_is = rw eh er;
      }

  typed_whole : (m : Num) → number b ≡ m → typed b m ≡ first h e rest → Whole b h e rest
  unfolding typed
  typed_whole unreadable q p = absurd (malformed_first p)
  typed_whole (num t k) q p = let c = cond_first (type_in_range t) _ p in sized_whole t k q c.0 (number (drop k b)) refl c.1

end_malformed : end ≡ malformed → ⊥
end_malformed p = let z : ◌≡◌ {A = ℕ} 0 1 = cc in omega arith

cond_end : (t : Bool) (x : First) → (x ≡ end → ⊥) → cond t x malformed ≡ end → ⊥
cond_end true x no_end p = no_end p
cond_end false x no_end p = end_malformed (sym p)

typed_end : (b : List ℕ) (m : Num) → typed b m ≡ end → ⊥
unfolding typed sized
typed_end b unreadable p = end_malformed (sym p)
typed_end b (num t k) p = cond_end (type_in_range t) _ (size_end (number (drop k b))) p
  where
    size_end : (m : Num) → sized b t k m ≡ end → ⊥
    size_end unreadable p = end_malformed (sym p)
    size_end (num n j) p = cond_end (leb n (length b - (k + j))) _ (λ q. end_first (sym q)) p

pub element_whole : (b : List ℕ) (h : ℕ) (e : Element) (rest : List ℕ) → element b ≡ first h e rest → Whole b h e rest
unfolding element
element_whole [] h e rest p = absurd (end_first p)
element_whole (x ∷ xs) h e rest p = typed_whole (x ∷ xs) (number (x ∷ xs)) refl p

pub end_nil : (b : List ℕ) → element b ≡ end → b ≡ []
unfolding element
end_nil [] p = refl
end_nil (x ∷ xs) p = absurd (typed_end (x ∷ xs) (number (x ∷ xs)) p)

pub rest_shorter : (b : List ℕ) (h : ℕ) (e : Element) (rest : List ℕ) → element b ≡ first h e rest → length rest < length b
rest_shorter b h e rest p = let w = element_whole b h e rest p in rw (w.rest_is, length-drop (h + w.size) b) (omega arith)

-- ---- enough is enough

after_same : (b : List ℕ) (f g : List ℕ → Cuts) → ((r : List ℕ) → length r < length b → f r ≡ g r) → (m : First) → element b ≡ m
    → after m f ≡ after m g
after_same b f g same end p = refl
after_same b f g same malformed p = refl
after_same b f g same (first h e rest) p = ap (λ (c : Cuts). next e c) (same rest (rest_shorter b h e rest p))

cuts_enough : (k l : ℕ) (b : List ℕ) → length b < k → length b < l → cuts_by k b ≡ cuts_by l b
unfolding cuts_by
cuts_enough zero l b h g = absurd (not-suc-le-zero h)
cuts_enough (suc k) zero b h g = absurd (not-suc-le-zero g)
cuts_enough (suc k) (suc l) b h g =
    after_same b (λ r. cuts_by k r) (λ r. cuts_by l r) (λ r lt. cuts_enough k l r (omega arith) (omega arith)) (element b) refl

-- ---- induction element by element

pub by_elements {ℓ} : (P : List ℕ → Type ℓ)
    → ((b : List ℕ) → element b ≡ end → P b)
    → ((b : List ℕ) → element b ≡ malformed → P b)
    → ((b : List ℕ) (h : ℕ) (e : Element) (r : List ℕ) → element b ≡ first h e r → P r → P b)
    → (b : List ℕ) → P b
by_elements P at_end at-malformed more b = go (suc (length b)) b (le_refl (suc (length b)))
  where
    turn : (k : ℕ) → ((r : List ℕ) → length r < k → P r) → (b : List ℕ) → length b < suc k → (f : First) → element b ≡ f → P b
    turn k ih b lt end p = at_end b p
    turn k ih b lt malformed p = at-malformed b p
    turn k ih b lt (first h e r) p = let s = rest_shorter b h e r p in more b h e r p (ih r (omega arith))

    go : (k : ℕ) (b : List ℕ) → length b < k → P b
    go zero b lt = absurd (not-suc-le-zero lt)
    go (suc k) b lt = turn k (go k) b lt (element b) refl

pub element_nil : element [] ≡ end
unfolding element
element_nil = refl

-- ---- one step on a list

pub cuts_end : (b : List ℕ) → element b ≡ end → cuts b ≡ done
unfolding cuts cuts_by
cuts_end b p = rw p

pub cuts_malformed : (b : List ℕ) → element b ≡ malformed → cuts b ≡ broken
unfolding cuts cuts_by
cuts_malformed b p = rw p

pub cuts_next : (b : List ℕ) (h : ℕ) (e : Element) (rest : List ℕ) → element b ≡ first h e rest → cuts b ≡ next e (cuts rest)
unfolding cuts cuts_by
cuts_next b h e rest p =
    rw p (ap (λ (c : Cuts). next e c) (cuts_enough (length b) (suc (length rest)) rest (rest_shorter b h e rest p) (le_refl (suc (length rest)))))

-- only what is empty ends at once
pub done_nil : (b : List ℕ) → cuts b ≡ done → b ≡ []
done_nil b p = go (element b) refl
  where
    go : (f : First) → element b ≡ f → b ≡ []
    go end q = end_nil b q
    go malformed q = let z : ◌≡◌ {A = ℕ} 0 1 = cc (cuts_malformed b q) in absurd (omega arith)
    go (first h e r) q = let z : ◌≡◌ {A = ℕ} 0 1 = cc (cuts_next b h e r q) in absurd (omega arith)

-- ---- one step at a place

pub record Step (s : List ℕ) (at kind start stop : ℕ) (n : Place) : Type 0 where
  pub moved : n.at ≡ stop
  pub before : at < start
  pub order : start ≤ stop
  pub within : stop ≤ length s
  pub first_is : element (drop at s) ≡ first (start - at) (record { type = kind; inside = take (stop - start) (drop start s) }) (drop stop s)
  pub cut_is : cuts (drop at s) ≡ next (record { type = kind; inside = take (stop - start) (drop start s) }) (cuts (drop n.at s))

-- what each answer of the reader says of the list from its place on
abbrev pub Seen : List ℕ → ℕ → Read → Type 0
Seen s at (Found kind start stop n) = Step s at kind start stop n
Seen s at End = cuts (drop at s) ≡ done
Seen s at Malformed = cuts (drop at s) ≡ broken

found_step : (s : List ℕ) (at h : ℕ) (e : Element) (rest : List ℕ) → element (drop at s) ≡ first h e rest → Whole (drop at s) h e rest
    → Seen s at (read_from at (first h e rest))
found_step s at h e rest p w =
    let stop = at + h + length e.inside in
    let wi = simp length-drop at w.within in
    let l = w.inside_length in
    let n1 : w.size ≡ stop - (at + h) = omega arith in
    let n2 : at + (h + w.size) ≡ stop = omega arith in
    let hh : h ≡ at + h - at = omega arith in
    let ei : e.inside ≡ take (stop - (at + h)) (drop (at + h) s) = w.inside_is ∙ rw (n1, drop-drop h at s) in
    let er : rest ≡ drop stop s = w.rest_is ∙ rw (drop-drop (h + w.size) at s, n2) in
    record {
      moved = refl;
      before = omega arith;
      order = omega arith;
      within = omega arith;
      first_is = p ∙ (λ i. first (hh i) (record { type = e.type; inside = ei i }) (er i));
      cut_is = cuts_next (drop at s) h e rest p ∙ (λ i. next (record { type = e.type; inside = ei i }) (cuts (er i)));
    }

read_seen : (s : List ℕ) (at : ℕ) → Seen s at (read_at s at)
unfolding read_at
read_seen s at = go (element (drop at s)) refl
  where
    go : (f : First) → element (drop at s) ≡ f → Seen s at (read_from at f)
    go end p = cuts_end (drop at s) p
    go malformed p = cuts_malformed (drop at s) p
    go (first h e rest) p = found_step s at h e rest p (element_whole (drop at s) h e rest p)

-- THE LAW FOR CALLERS: r is what the reader answered, and a is the answer that the match found it to be
pub seen : (s : List ℕ) (at : ℕ) {r a : Read} → r ≡ read_at s at → r ≡ a → Seen s at a
seen s at {r} {a} e f = subst (Seen s at) (sym e ∙ f) (read_seen s at)

-- what `seen` tells of an answer, for a signature
abbrev pub SeenOf : (s : List ℕ) (at : ℕ) {r a : Read} → r ≡ read_at s at → r ≡ a → Type 0
SeenOf s at {r} {a} e f = Seen s at a

-- the same of what stands first
abbrev pub FirstSeen : List ℕ → ℕ → Read → Type 0
FirstSeen s at (Found kind start stop n) = Step s at kind start stop n
FirstSeen s at End = element (drop at s) ≡ end
FirstSeen s at Malformed = element (drop at s) ≡ malformed

read_first : (s : List ℕ) (at : ℕ) → FirstSeen s at (read_at s at)
unfolding read_at
read_first s at = go (element (drop at s)) refl
  where
    go : (f : First) → element (drop at s) ≡ f → FirstSeen s at (read_from at f)
    go end p = p
    go malformed p = p
    go (first h e rest) p = found_step s at h e rest p (element_whole (drop at s) h e rest p)

pub first_seen : (s : List ℕ) (at : ℕ) {r a : Read} → r ≡ read_at s at → r ≡ a → FirstSeen s at a
first_seen s at {r} {a} e f = subst (FirstSeen s at) (sym e ∙ f) (read_first s at)

-- an element whose type and length take one byte each
pub short_step : (s : List ℕ) (at n : ℕ) → at + 2 + n ≤ length s → 1 ≤ get_or s at 0 → get_or s at 0 < 253 → get_or s (at + 1) 0 ≡ n → n < 253
    → Step s at (get_or s at 0) (at + 2) (at + 2 + n) (record { at = at + 2 + n })
short_step s at n room low high e few =
    let a : at + 1 + 1 ≡ at + 2 = omega arith in
    let b : at + 1 + 1 + get_or s (at + 1) 0 ≡ at + 2 + n = omega arith in
    let p = found s at (omega arith) (byte s at (omega arith) high) (type_ok low (omega arith)) (byte s (at + 1) (omega arith) (omega arith)) (omega arith) in
    seen s at refl (p ∙ (λ i. Found (get_or s at 0) (a i) (b i) (record { at = b i })))

-- ---- the same for `split`

pub split_end : (b : List ℕ) → cuts b ≡ done → split b ≡ some []
unfolding split
split_end b p = rw p

pub split_broken : (b : List ℕ) → cuts b ≡ broken → split b ≡ none
unfolding split
split_broken b p = rw p

pub split_next : (b r : List ℕ) (e : Element) → cuts b ≡ next e (cuts r) → split b ≡ also e (split r)
unfolding split
split_next b r e p = rw p

-- ---- what `split` gives

pub none_some : {es : List Element} → none ≡ some es → ⊥
none_some p = let z : ◌≡◌ {A = ℕ} 0 1 = cc in omega arith

pub also_some : (e : Element) (o : Option (List Element)) (es : List Element) → also e o ≡ some es
    → (t : List Element) × (o ≡ some t) × (es ≡ e ∷ t)
also_some e none es p = absurd (none_some p)
also_some e (some t) es p = (t, refl, cc)
