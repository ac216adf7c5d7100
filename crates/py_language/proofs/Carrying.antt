-- Phrases of little nesting and few open brackets are carried from one language to another: one law for each way to
-- build a language. A node that weighs, and brackets, go one deeper.
use Rattle.std.proofs.Common.{◌≡◌, ℕ, zero, suc, ◌+◌, ◌≤◌, ◌<◌, Bool, true, List, [], ◌∷◌, ◌++◌, inl, inr, refl, ap, arith}
use Rattle.tree_nodes.specs.declared.kind.Kind.{Kind}
use Rattle.tree_nodes.specs.Trees.{Node, Tree}
use Rattle.py_language.specs.Sets.{are_apart, is_within}
use Rattle.py_language.specs.Brackets.{peak, IsEven, Even}
use Rattle.py_language.specs.Languages.{Language, Then, Nothing, Either, Maybe, Times, Many, Some, Shown, Skipped, Made, Where, Separated, Bracketed, Steps, Stepwise, whole, row}
use Rattle.py_language.specs.Nesting.{nesting_of, Carried}
use Rattle.py_language.proofs.BracketLaws.{even_append, even_token, even_bracketed, peak_both, peak_bracketed}
use Rattle.py_language.proofs.Agreement.{then_of}
use Rattle.py_language.proofs.NestingLaws.{nesting_append, nesting_whole, whole_keeps, row_keeps}

module _ {T : Type 0} (code : T → ℕ) (opens closes : List ℕ) (weight : Kind → ℕ) where
  -- ---- from language to language

  -- below nothing there is nothing to carry
  pub carried_none : {a b : Language T} → Even code opens closes a → Carried code opens closes weight 0 a b
  carried_none even = record { even = even; carries = λ ts out h l. absurd (omega (arith, l)) }

  pub carried_same : {a : Language T} (k : ℕ) → Even code opens closes a → Carried code opens closes weight k a a
  carried_same k even = record { even = even; carries = λ ts out h l. h }

  -- every phrase of a is one of b
  pub carried_all : {a b : Language T} (k : ℕ) → Even code opens closes a → ((ts : List T) (out : List Tree) → a ts out → b ts out) → Carried code opens closes weight k a b
  carried_all k even into = record { even = even; carries = λ ts out h l. into ts out h }

  pub carried_less : {j k : ℕ} {a b : Language T} → j ≤ k → Carried code opens closes weight k a b → Carried code opens closes weight j a b
  carried_less less C = record { even = C.even; carries = λ ts out h l. C.carries ts out h (omega (arith, less, l)) }

  -- one less, as for parts of a node beside which another goes deeper
  pub carried_pred : {k : ℕ} {a b : Language T} → Carried code opens closes weight (suc k) a b → Carried code opens closes weight k a b
  carried_pred C = carried_less (omega arith) C

  pub carried_on : {k : ℕ} {a b c : Language T} → Carried code opens closes weight k a b → Carried code opens closes weight k b c → Carried code opens closes weight k a c
  carried_on C D = record { even = C.even; carries = λ ts out h l. D.carries ts out (C.carries ts out h l) l }

  -- ---- tokens that are no brackets

  pub carried_skipped : (k : ℕ) (set : List ℕ) → are_apart opens set ≡ true → are_apart closes set ≡ true → Carried code opens closes weight k (Skipped code set) (Skipped code set)
  carried_skipped k set no_open no_close = carried_same k (λ ts out h. rw h.tokens (even_token code opens closes set h.token h.is_in no_open no_close))

  pub carried_shown : (k : ℕ) (node_of : T → Node) (set : List ℕ) → are_apart opens set ≡ true → are_apart closes set ≡ true → Carried code opens closes weight k (Shown code node_of set) (Shown code node_of set)
  carried_shown k node_of set no_open no_close = carried_same k (λ ts out h. rw h.tokens (even_token code opens closes set h.token h.is_in no_open no_close))

  pub carried_nothing : (k : ℕ) → Carried code opens closes weight k Nothing Nothing
  carried_nothing k = carried_same k (λ ts out h d. rw h.0 refl)

  -- ---- one behind the other

  -- each of two parts comes to no more than both together
  parts_fit : {k : ℕ} (ts x y : List T) (out u v : List Tree) → ts ≡ x ++ y → out ≡ u ++ v → IsEven code opens closes x → nesting_of weight out + peak code opens closes 0 ts < k
      → (nesting_of weight u + peak code opens closes 0 x < k) × (nesting_of weight v + peak code opens closes 0 y < k)
  parts_fit ts x y out u v ts_is out_is even l =
      let e1 = nesting_append weight u v in
      let e2 = peak_both code opens closes x y even in
      let e3 = ap (nesting_of weight) out_is in
      let e4 = ap (peak code opens closes 0) ts_is in
      (omega (arith, e1, e2, e3, e4, l), omega (arith, e1, e2, e3, e4, l))

  pub carried_then : {k : ℕ} {a b c d : Language T} → Carried code opens closes weight k a b → Carried code opens closes weight k c d → Carried code opens closes weight k (Then a c) (Then b d)
  carried_then {b = b} {d = d} C D = record {
    even = λ ts out h. rw h.tokens (even_append code opens closes h.front h.back (C.even h.front h.front_out h.first) (D.even h.back h.back_out h.second));
    carries = λ ts out h l.
        let (l1, l2) = parts_fit ts h.front h.back out h.front_out h.back_out h.tokens h.trees (C.even h.front h.front_out h.first) l in
        rw h.tokens (then_of b d h.front h.back h.front_out h.back_out out (C.carries h.front h.front_out h.first l1) (D.carries h.back h.back_out h.second l2) h.trees);
  }

  -- ---- choices and repetitions

  pub carried_either : {k : ℕ} {a b c d : Language T} → Carried code opens closes weight k a b → Carried code opens closes weight k c d → Carried code opens closes weight k (Either a c) (Either b d)
  carried_either C D = record {
    even = λ ts out h. elim h [ inl g ↦ C.even ts out g | inr g ↦ D.even ts out g ];
    carries = λ ts out h l. elim h [ inl g ↦ inl (C.carries ts out g l) | inr g ↦ inr (D.carries ts out g l) ];
  }

  pub carried_maybe : {k : ℕ} {a b : Language T} → Carried code opens closes weight k a b → Carried code opens closes weight k (Maybe a) (Maybe b)
  carried_maybe {k} C = carried_either C (carried_nothing k)

  carried_times : {k : ℕ} {a b : Language T} → Carried code opens closes weight k a b → (n : ℕ) → Carried code opens closes weight k (Times a n) (Times b n)
  carried_times {k} C zero = carried_nothing k
  carried_times C (suc n) = carried_then C (carried_times C n)

  pub carried_many : {k : ℕ} {a b : Language T} → Carried code opens closes weight k a b → Carried code opens closes weight k (Many a) (Many b)
  carried_many C = record { even = λ ts out h. (carried_times C h.0).even ts out h.1; carries = λ ts out h l. (h.0, (carried_times C h.0).carries ts out h.1 l) }

  pub carried_some : {k : ℕ} {a b : Language T} → Carried code opens closes weight k a b → Carried code opens closes weight k (Some a) (Some b)
  carried_some C = carried_then C (carried_many C)

  pub carried_separated : {k : ℕ} {a b : Language T} (separator : List ℕ) → are_apart opens separator ≡ true → are_apart closes separator ≡ true → Carried code opens closes weight k a b
      → Carried code opens closes weight k (Separated (Skipped code separator) a) (Separated (Skipped code separator) b)
  carried_separated {k} separator no_open no_close C =
      let skip = carried_skipped k separator no_open no_close in carried_then C (carried_then (carried_many (carried_then skip C)) (carried_maybe skip))

  pub carried_where : {k : ℕ} {a b : Language T} (test : List Tree → Bool) → Carried code opens closes weight k a b → Carried code opens closes weight k (Where test a) (Where test b)
  carried_where test C = record { even = λ ts out h. C.even ts out h.0; carries = λ ts out h l. (C.carries ts out h.0 l, h.1) }

  -- ---- nodes

  -- a function of the trees under which no phrase's nesting gets less
  pub carried_made : {k : ℕ} {a b : Language T} (over : List T → List Tree → List Tree) → ((ts : List T) (parts : List Tree) → a ts parts → nesting_of weight parts ≤ nesting_of weight (over ts parts)) → Carried code opens closes weight k a b
      → Carried code opens closes weight k (Made over a) (Made over b)
  carried_made over keeps C = record {
    even = λ ts out h. C.even ts h.parts h.spelled;
    carries = λ ts out h l.
        let e = ap (nesting_of weight) h.trees in
        let more = keeps ts h.parts h.spelled in
        record { parts = h.parts; spelled = C.carries ts h.parts h.spelled (omega (arith, l, e, more)); trees = h.trees };
  }

  -- one under which it gets more: below, there is one less
  pub carried_deeper : {k : ℕ} {a b : Language T} (over : List T → List Tree → List Tree) → ((ts : List T) (parts : List Tree) → a ts parts → nesting_of weight parts < nesting_of weight (over ts parts)) → Carried code opens closes weight k a b
      → Carried code opens closes weight (suc k) (Made over a) (Made over b)
  carried_deeper over deeper C = record {
    even = λ ts out h. C.even ts h.parts h.spelled;
    carries = λ ts out h l.
        let e = ap (nesting_of weight) h.trees in
        let more = deeper ts h.parts h.spelled in
        record { parts = h.parts; spelled = C.carries ts h.parts h.spelled (omega (arith, l, e, more)); trees = h.trees };
  }

  pub carried_whole : {k : ℕ} {a b : Language T} (node_over : List T → Node) → Carried code opens closes weight k a b → Carried code opens closes weight k (Made (whole node_over) a) (Made (whole node_over) b)
  carried_whole node_over C = carried_made (whole node_over) (λ ts parts h. whole_keeps weight node_over ts parts) C

  pub carried_row : {k : ℕ} {a b : Language T} (node_over : List T → Node) → Carried code opens closes weight k a b → Carried code opens closes weight k (Made (row node_over) a) (Made (row node_over) b)
  carried_row node_over C = carried_made (row node_over) (λ ts parts h. row_keeps weight node_over ts parts) C

  -- a node that weighs one
  pub carried_heavy : {k : ℕ} {a b : Language T} (node_over : List T → Node) → ((ts : List T) → weight (node_over ts).kind ≡ 1) → Carried code opens closes weight k a b
      → Carried code opens closes weight (suc k) (Made (whole node_over) a) (Made (whole node_over) b)
  carried_heavy node_over heavy C =
      carried_deeper (whole node_over) (λ ts parts h. let e1 = nesting_whole weight node_over ts parts in let e2 = heavy ts in omega (arith, e1, e2)) C

  -- ---- brackets

  -- a phrase between brackets has one more open than the phrase inside
  inside_fits : {k : ℕ} (opening closing : List ℕ) (a : Language T) (ts : List T) (out : List Tree) → is_within opening opens ≡ true → is_within closing closes ≡ true → are_apart opens closing ≡ true → Even code opens closes a
      → (h : Bracketed code opening closing a ts out) → nesting_of weight out + peak code opens closes 0 ts < suc k → nesting_of weight h.second.front_out + peak code opens closes 0 h.second.front < k
  inside_fits opening closing a ts out w_open w_close sep even h l =
      let o = h.first in
      let s = h.second in
      let c = s.second in
      let ts_is : ts ≡ o.token ∷ (s.front ++ c.token ∷ []) = rw (h.tokens, o.tokens, s.tokens, c.tokens) refl in
      let out_is : out ≡ s.front_out ++ [] = rw (h.trees, o.trees, s.trees, c.trees) refl in
      let e1 = nesting_append weight s.front_out [] in
      let e2 = peak_bracketed code opens closes opening closing o.token s.front c.token o.is_in w_open c.is_in w_close sep (even s.front s.front_out s.first) 0 in
      let e3 = ap (peak code opens closes 0) ts_is in
      let e4 = ap (nesting_of weight) out_is in
      omega (arith, l, e1, e2, e3, e4)

  pub carried_bracketed : {k : ℕ} {a b : Language T} (opening closing : List ℕ) → is_within opening opens ≡ true → is_within closing closes ≡ true → are_apart opens closing ≡ true → Carried code opens closes weight k a b
      → Carried code opens closes weight (suc k) (Bracketed code opening closing a) (Bracketed code opening closing b)
  carried_bracketed {k} {a} {b} opening closing w_open w_close sep C = record {
    even = λ ts out h.
        let o = h.first in
        let s = h.second in
        let c = s.second in
        let ts_is : ts ≡ o.token ∷ (s.front ++ c.token ∷ []) = rw (h.tokens, o.tokens, s.tokens, c.tokens) refl in
        rw ts_is (even_bracketed code opens closes opening closing o.token s.front c.token o.is_in w_open c.is_in w_close sep (C.even s.front s.front_out s.first));
    carries = λ ts out h l.
        let s = h.second in
        let fit = inside_fits opening closing a ts out w_open w_close sep C.even h l in
        let inner = then_of b (Skipped code closing) s.front s.back s.front_out s.back_out h.back_out (C.carries s.front s.front_out s.first fit) s.second s.trees in
        let inside : Then b (Skipped code closing) h.back h.back_out = rw s.tokens inner in
        rw h.tokens (then_of (Skipped code opening) (Then b (Skipped code closing)) h.front h.back h.front_out h.back_out out h.first inside h.trees);
  }

  -- ---- steps to the left

  -- where each step carries, whatever stands before it
  pub carried_steps : {k : ℕ} {a b : Language T} (s t : Language T → Language T) → ((c d : Language T) → Carried code opens closes weight k c d → Carried code opens closes weight k (s c) (t d)) → Carried code opens closes weight k a b
      → Carried code opens closes weight k (Stepwise s a) (Stepwise t b)
  carried_steps {k} {a} {b} s t step C = record { even = λ ts out h. (go h.0).even ts out h.1; carries = λ ts out h l. (h.0, (go h.0).carries ts out h.1 l) }
    where
      go : (n : ℕ) → Carried code opens closes weight k (Steps s a n) (Steps t b n)
      go zero = C
      go (suc n) = step (Steps s a n) (Steps t b n) (go n)
