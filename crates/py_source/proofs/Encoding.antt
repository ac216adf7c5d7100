-- How many bytes characters take.
use Rattle.std.proofs.Common.{◌≡◌, ℕ, ◌+◌, ◌≤◌, ◌<◌, ◌*◌, List, [], ◌∷◌, ◌++◌, length, take, drop, get_or, refl, sym, ap, ◌∙◌, arith, encode_utf8_all, encode_utf8, append-nil}
use Rattle.std.specs.Char.{len_utf8}
use Rattle.std.proofs.lemmas.List.{take_more, length-append, take-append-drop, take_at, drop_at}
use Rattle.std.proofs.lemmas.Str.{encodes-append, length-encode, len_utf8_bounds}

encodes_one : (c : ℕ) → length (encode_utf8_all (c ∷ [])) ≡ len_utf8 c
encodes_one c = ap length (append-nil (encode_utf8 c)) ∙ length-encode c

-- one character more
pub encodes_more : (cs : List ℕ) (i d : ℕ) → i < length cs → length (encode_utf8_all (take (i + 1) cs)) ≡ length (encode_utf8_all (take i cs)) + len_utf8 (get_or cs i d)
encodes_more cs i d h =
    let cut : encode_utf8_all (take (i + 1) cs) ≡ encode_utf8_all (take i cs) ++ encode_utf8_all (get_or cs i d ∷ []) = ap encode_utf8_all (take_more cs i d h) ∙ encodes-append (take i cs) (get_or cs i d ∷ []) in
    omega (arith, ap length cut, length-append (encode_utf8_all (take i cs)) (encode_utf8_all (get_or cs i d ∷ [])), encodes_one (get_or cs i d))

-- a front takes no more bytes than the whole
pub encodes_front : (cs : List ℕ) (i : ℕ) → length (encode_utf8_all (take i cs)) ≤ length (encode_utf8_all cs)
encodes_front cs i =
    let cut : encode_utf8_all (take i cs) ++ encode_utf8_all (drop i cs) ≡ encode_utf8_all cs = sym (encodes-append (take i cs) (drop i cs)) ∙ ap encode_utf8_all (take-append-drop i cs) in
    omega (arith, ap length cut, length-append (encode_utf8_all (take i cs)) (encode_utf8_all (drop i cs)))

-- a character takes four bytes at most
pub encodes_bound : (cs : List ℕ) → length (encode_utf8_all cs) ≤ 4 * length cs
encodes_bound [] = omega arith
encodes_bound (c ∷ cs) =
    let rest = encodes_bound cs in
    omega (arith, rest, length-append (encode_utf8 c) (encode_utf8_all cs), length-encode c, (len_utf8_bounds c).1)

-- characters in the middle of a text are a slice of its bytes
pub middle : (a t b : List ℕ) → take (length (encode_utf8_all t)) (drop (length (encode_utf8_all a)) (encode_utf8_all (a ++ (t ++ b)))) ≡ encode_utf8_all t
middle a t b =
    let whole : encode_utf8_all (a ++ (t ++ b)) ≡ encode_utf8_all a ++ (encode_utf8_all t ++ encode_utf8_all b) = encodes-append a (t ++ b) ∙ ap (λ x. encode_utf8_all a ++ x) (encodes-append t b) in
    ap (λ x. take (length (encode_utf8_all t)) (drop (length (encode_utf8_all a)) x)) whole ∙ ap (take (length (encode_utf8_all t))) (drop_at (encode_utf8_all a) (encode_utf8_all t ++ encode_utf8_all b) _ refl) ∙ take_at (encode_utf8_all t) (encode_utf8_all b) _ refl
