-- Two conforming answers of `read_item` coincide: what an item says fixes the item.
use mathlib.Core.Path.{◌≡◌, refl, ap}
use Rattle.refusals.specs.declared.Refusal.{Refusal}
use Rattle.refusals.proofs.Coinciding.{named, named_back, coincide}
use Rattle.commands.specs.Reading.{ToldCommand}
use Rattle.commands.proofs.Coinciding.{taken_for, taken-for}
use Rattle.stream.specs.declared.Item.{Item}
use Rattle.stream.specs.declared.Item.TheVariants.{Nothing, Text, Del}
use Rattle.stream.specs.Items.{Itemed, nothing, text, del, command, refused_command, refused_call, item_of}

item_back : Itemed ToldCommand → Item
item_back nothing = Nothing
item_back (text b n) = Text (record { byte = b; next = n })
item_back (del n) = Del (record { next = n })
item_back (command t) = Item.Command (taken_for t)
item_back (refused_command e p n k) = Item.RefusedCommand (record { refusal = named e; place = p; next = n; kept = k })
item_back (refused_call e p) = Item.Refused (record { refusal = named e; place = p })

item-same : (i : Item) → item_back (item_of i) ≡ i
unfolding item_of item_back
item-same Nothing = refl
item-same (Text t) = refl
item-same (Del d) = refl
item-same (Item.Command t) = ap (λ x. Item.Command x) (taken-for t)
item-same (Item.RefusedCommand r) = ap (λ x. Item.RefusedCommand (record { refusal = x; place = r.place; next = r.next; kept = r.kept })) (named_back r.refusal)
item-same (Item.Refused e) = ap (λ (x : Refusal). Item.Refused (record { refusal = x; place = e.place })) (named_back e.refusal)

pub items_coincide : {x y : Item} {d : Itemed ToldCommand} → item_of x ≡ d → item_of y ≡ d → x ≡ y
items_coincide = coincide item_of item_back item-same
