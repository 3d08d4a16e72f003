-- An example: the notes of a seat that puts a second key into a map of one node are what the deeds ask for.
use Rattle.std.proofs.Common.{◌≡◌, inl, inr, ◌<◌, [], ◌∷◌, refl, arith}
use Rattle.std.specs.Prelude.{Some, None}
use Rattle.plain_protocol.specs.plain_state.declared.act.EventPlace.TheVariants.{Cell, Field}
use Rattle.plain_protocol.specs.plain_state.declared.act.PlainAct.TheVariants as act
use Rattle.map_trees.specs.Trees.{leaf, node}
use Rattle.map_trees.specs.declared.change.Change.TheVariants as change
use Rattle.map_trees.proofs.Changing.{insert_is}
use Rattle.map_law.specs.Views.{kid}
use Rattle.map_law.specs.Nodes.{words}
use Rattle.map_law.specs.Patterns.{Pattern, null, branch}
use Rattle.map_law.specs.Making.{SetReady}
use Rattle.map_law.specs.Publishing.{PublishReady}
use Rattle.std.proofs.Common.{ap, sym}
use Rattle.plain_protocol.specs.plain_state.Lists.{times}
use Rattle.plain_protocol.proofs.Below.plain_state_Kit.{times_cons, held_self}
use Rattle.map_law.specs.Example.{old_root, new_leaf, new_root, own, both, linked}
use Rattle.map_law.specs.Views.{Kid, raw_times}
use Rattle.map_law.proofs.Kit.{in_times}

pub set_is_ready : SetReady new_root 1 new_leaf (own 5) both (act.Replace (Field new_root 1) (Some new_leaf))
set_is_ready = record {
  is = refl;
  here = refl;
  side = inr refl;
  owned = one_of_two;
  kid_owned = other_of_two;
  first = record { life = 5; payload = words 3 7 2 };
  second = record { life = 5; payload = words 9 5 1 };
  has_first = refl;
  has_second = refl;
  node = (9, 5, 1, refl);
  raw = (
    record { slot = new_root; life = 5; payload = words 3 7 2; first = None; second = None },
    record { slot = new_leaf; life = 5; payload = words 9 5 1; first = None; second = None } ∷ [],
    refl,
    refl,
    refl,
  );
  known = inr (counted refl);
}
  where
    one_of_two : 0 < times new_root (new_leaf ∷ new_root ∷ [])
    one_of_two = let x = times_cons new_root new_leaf (new_root ∷ []) in let y = times_cons new_root new_root [] in
        let z = held_self new_root in omega arith

    other_of_two : 0 < times new_leaf (new_leaf ∷ new_root ∷ [])
    other_of_two = let x = times_cons new_leaf new_leaf (new_root ∷ []) in let z = held_self new_leaf in omega arith

    counted : both ≡ both → 0 < raw_times new_leaf 5 (record {
      slot = new_leaf;
      life = 5;
      payload = words 9 5 1;
      first = None;
      second = None;
    } ∷ [])
    counted e = in_times new_leaf 5 (record {
      slot = new_leaf;
      life = 5;
      payload = words 9 5 1;
      first = None;
      second = None;
    }) _ refl refl (inl refl)

abbrev old : Pattern
old = branch 3 7 1 null null

abbrev new : Pattern
new = branch 3 7 2 null (branch 9 5 1 null null)

pub publish_is_ready : PublishReady 0 (Some old_root) (Some new_root) 9 (change.Put 5) None (own 5) linked
    (act.TryReplace (Cell 0) (Some old_root) (Some new_root))
publish_is_ready = record {
  is = refl;
  here = refl;
  opened = refl;
  old_kid = Some (kid old_root 1 (words 3 7 1));
  old_is = (record { life = 1; payload = words 3 7 1 }, refl, refl);
  old_pattern = old;
  old_spells = (
    kid old_root 1 (words 3 7 1),
    refl,
    refl,
    (None, (_, inr (inr (inr (inl refl))), refl, refl, refl, refl), refl),
    (None, (_, inr (inr (inl refl)), refl, refl, refl, refl), refl),
  );
  new_kid = Some (kid new_root 5 (words 3 7 2));
  new_is = (record { life = 5; payload = words 3 7 2 }, refl, refl);
  new_node = λ x e. (3, 7, 2, (let f : x ≡ kid new_root 5 (words 3 7 2) = cc in ap (λ (z : Kid). z.payload) f));
  new_known = λ x e. inr (known x e);
  new_pattern = new;
  new_spells = (
    kid new_root 5 (words 3 7 2),
    refl,
    refl,
    (None, (_, inl refl, refl, refl, refl, refl), refl),
    (
      Some (kid new_leaf 5 (words 9 5 1)),
      (_, inr (inl refl), refl, refl, refl, refl),
      (
        kid new_leaf 5 (words 9 5 1),
        refl,
        refl,
        (None, (_, inr (inr (inl refl)), refl, refl, refl, refl), refl),
        (None, (_, inr (inr (inr (inl refl))), refl, refl, refl, refl), refl),
      ),
    ),
  );
  is_change = λ trees f g s. let i = insert_is 9 5 (node 3 7 1 leaf leaf) s in (i.0, refl, i.1);
}
  where
    known : (x : Kid) → Some (kid new_root 5 (words 3 7 2)) ≡ Some x → 0 < raw_times x.slot x.life linked.raw
    known x e = let f : x ≡ kid new_root 5 (words 3 7 2) = cc in
        in_times x.slot x.life (record {
          slot = new_root;
          life = 5;
          payload = words 3 7 2;
          first = None;
          second = Some (kid new_leaf 5 (words 9 5 1));
        }) linked.raw
        (ap (λ (z : Kid). z.slot) (sym f)) (ap (λ (z : Kid). z.life) (sym f)) (inl refl)
