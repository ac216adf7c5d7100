-- A file has one fault as a whole, or none.
use Rattle.std.proofs.Common.{◌≡◌, ℕ, false, List, sym, ◌∙◌, arith, None, ⊎_elim, IsUtf8}
use Rattle.std.proofs.lemmas.Str.{utf8_valid_len-IsValidUpTo}
use Rattle.std.proofs.lemmas.Bool.{cases_lt}
use Rattle.py_source.specs.Coding.{other_encoding}
use Rattle.py_source.specs.Decoding.{HasNoNul, IsFirstNul, IsSourceFault, has_high_byte, without_mark}
use Rattle.py_source.specs.declared.decoding.SourceCause.{SourceCause}
use Rattle.py_source.specs.declared.decoding.SourceCause.TheVariants.{NotUtf8, NulByte, Coding}
use Rattle.py_source.specs.declared.decoding.SourceFault.{SourceFault}

first_nul_unique : (text : List ℕ) (n m : ℕ) → IsFirstNul text n → IsFirstNul text m → n ≡ m
first_nul_unique text n m a b =
    ⊎_elim
    (λ below. absurd (b.first n below a.here))
    (λ above. ⊎_elim (λ below. absurd (a.first m below b.here)) (λ le. omega arith) (cases_lt m n))
    (cases_lt n m)

nul_within : (text : List ℕ) (n : ℕ) → HasNoNul text → IsFirstNul text n → ⊥
nul_within text n none some = none n some.within some.here

-- a file has one fault
pub source_unique : (bytes : List ℕ) (n m : ℕ) (c d : SourceCause) → IsSourceFault bytes n c → IsSourceFault bytes m d → let f : SourceFault = record { place = n; cause = c } in f ≡ record { place = m; cause = d }
source_unique bytes n m NotUtf8 NotUtf8 a b =
    let same : n ≡ m = sym (utf8_valid_len-IsValidUpTo (without_mark bytes) n a.1) ∙ utf8_valid_len-IsValidUpTo (without_mark bytes) m b.1 in
    λ i. record { place = same i; cause = NotUtf8 }
source_unique bytes n m NotUtf8 NulByte a b = absurd (a.0 b.0)
source_unique bytes n m NotUtf8 Coding a b = absurd (a.0 b.0)
source_unique bytes n m NulByte NotUtf8 a b = absurd (b.0 a.0)
source_unique bytes n m NulByte NulByte a b =
    let same = first_nul_unique (without_mark bytes) n m a.1 b.1 in λ i. record { place = same i; cause = NulByte }
source_unique bytes n m NulByte Coding a b = absurd (nul_within (without_mark bytes) n b.1 a.1)
source_unique bytes n m Coding NotUtf8 a b = absurd (b.0 a.0)
source_unique bytes n m Coding NulByte a b = absurd (nul_within (without_mark bytes) m a.1 b.1)
source_unique bytes n m Coding Coding a b =
    let x = a.3 in let y = b.3 in let same : n ≡ m = cc (x, y) in λ i. record { place = same i; cause = Coding }

-- text without a byte 0 has no fault where no comment names another encoding
pub no_other_faultless : (bytes : List ℕ) → IsUtf8 (without_mark bytes) → HasNoNul (without_mark bytes) → other_encoding (without_mark bytes) ≡ None → (n : ℕ) (c : SourceCause) → IsSourceFault bytes n c → ⊥
no_other_faultless bytes utf8 whole none n NotUtf8 f = f.0 utf8
no_other_faultless bytes utf8 whole none n NulByte f = nul_within (without_mark bytes) n whole f.1
no_other_faultless bytes utf8 whole none n Coding f = let x = f.3 in cc (x, none)

-- nor where it is ASCII
pub ascii_faultless : (bytes : List ℕ) → IsUtf8 (without_mark bytes) → HasNoNul (without_mark bytes) → has_high_byte bytes ≡ false → (n : ℕ) (c : SourceCause) → IsSourceFault bytes n c → ⊥
ascii_faultless bytes utf8 whole low n NotUtf8 f = f.0 utf8
ascii_faultless bytes utf8 whole low n NulByte f = nul_within (without_mark bytes) n whole f.1
ascii_faultless bytes utf8 whole low n Coding f = let x = f.2 in cc (x, low)
