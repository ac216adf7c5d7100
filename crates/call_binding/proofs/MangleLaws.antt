-- Names without the underscores in front.
use Rattle.std.proofs.Common.{◌≡◌, ℕ, ◌<◌, ◌≤◌, List, [], ◌∷◌, length, drop, length-drop, refl, sym, ap, ◌∙◌, arith, Option, Some, None, IfSome}
use Rattle.std.specs.Str.Pattern.{FindsCharPrefix, CutsPrefixes, IsTrimStartMatches}
use Rattle.std.proofs.lemmas.Bool.{ne_eqb}
use Rattle.std.proofs.lemmas.Str.Pattern.{drop_at_char, strip_prefix_char}
use Rattle.scope_rules.specs.Nodes.{Name}
use Rattle.scope_rules.specs.Mangling.{bare}

bare_stripped : (x y : Name) → x ≡ 95 ∷ y → bare y ≡ bare x
unfolding bare
bare_stripped x y e = rw e refl

bare_itself : (x : Name) → ((y : Name) → x ≡ 95 ∷ y → ⊥) → x ≡ bare x
unfolding bare
bare_itself [] never = refl
bare_itself (c ∷ cs) never = rw (ne_eqb c 95 (λ e. never cs (ap (λ (d : ℕ). d ∷ cs) e))) refl

cut-bare : (x y : Name) (ns : List ℕ) → CutsPrefixes (FindsCharPrefix 95) x ns y → bare y ≡ bare x
cut-bare x y [] e = ap bare e
cut-bare x y (n ∷ ns) h = bare_stripped h.0 y (drop_at_char 95 h.0 0 n h.2 (omega arith) ∙ ap (λ (ds : Name). 95 ∷ ds) (sym h.3)) ∙ cut-bare x h.0 ns h.1

too-long : (y z : Name) (n : ℕ) → n ≡ 0 → z ≡ drop n y → y ≡ 95 ∷ z → ⊥
too-long y z n none same e = absurd (omega (arith, none, length-drop n y, ap length same, ap length e))

no-more : (y : Name) (o : Option ℕ) → FindsCharPrefix 95 y o → IfSome o (λ n. n ≡ 0) → y ≡ bare y
no-more y None never h = bare_itself y (strip_prefix_char 95 y None never (omega arith))
no-more y (Some n) at none = absurd (too-long y (drop n y) n none refl (drop_at_char 95 y 0 n at (omega arith)))

-- a name that is trimmed of underscores is bare
pub bare_trimmed : (x y : Name) → IsTrimStartMatches (FindsCharPrefix 95) x y → y ≡ bare x
bare_trimmed x y h = no-more y h.1.0 h.1.1 h.1.2 ∙ cut-bare x y h.0.0 h.0.1
