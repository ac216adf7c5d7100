use Rattle.std.proofs.Common.{rules, ◌≡◌, ◌∙◌, ◌+◌, ◌++◌, ◌∷◌, [], None, Some, List, ℕ, cond, length, sym, ap, arith, length-append}
use Rattle.std.specs.Prelude.{string_bytes}
use Rattle.std.specs.BTreeMap as tree
use Rattle.std.specs.Option.{is_some}
use Rattle.std.proofs.lemmas.Map.Text.{btree_map_updates_text}
use Rattle.file_list.specs.declared.entry.Listed.{Listed}
use Rattle.file_list.specs.Entries.{HasShortSource}
use Rattle.file_list.specs.Modules.{file_at}
use Rattle.file_list.proofs.Index.{index_more}
use Rattle.file_list.proofs.Orderly.{all_more}
use Rattle.file_list.proofs.reading.Reading.add.Goals as goal

pub invariant_of-self-in-Ok : goal.invariant_of-self-in-Ok
invariant_of-self-in-Ok c =
    let l : Listed = record { path = c.args.path; module_name = c.from_string.result; is_package = c.args.is_package; entry = c.args.entry } in
    let items : List Listed = c.self.inside.entries.items in
    let name : List ℕ = string_bytes c.in_ok-key.key in
    let same : items ≡ c.args.self.now = c.self.view_is in
    let long : length (items ++ l ∷ []) ≡ length items + 1 = length-append items (l ∷ []) in
    let as_before : length items ≡ length c.args.self.now = ap length same in
    let room = c.requires.room in
    let at : name ≡ l.module_name = search rules in
    let text : c.as_str.result.now ≡ name = search rules in
    let place : c.len.result ≡ length items = search rules in
    rw c.in_ok-push.ensures.items (
      omega arith,
      all_more (λ listed. HasShortSource listed.entry) items l c.self.invariant.1 c.requires.short,
      index_more (tree.get_by_text c.self.inside.modules) (tree.get_by_text c.insert.new.self) items l name c.next_file-file.result at c.self.invariant.2
          (c.next_file-file.ensures ∙ ap (λ n. cond (is_some (tree.get_by_text c.self.inside.modules n)) None (Some (file_at c.len.result))) text ∙ ap (λ k. cond (is_some (tree.get_by_text c.self.inside.modules name)) None (Some (file_at k))) place)
          (btree_map_updates_text name c.self.inside.modules c.insert.new.self (Some c.next_file-file.result) c.in-Ok.ensures.updates),
    )
