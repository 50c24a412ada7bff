use Rattle.order_query.proofs.orders.Orders.insert.Given as goal

abbrev pub ghosts-insert_as : goal.ghosts-insert_as
ghosts-insert_as a = record { insert = record { english = a.after_e.0; hebrew = a.after_h.0 } }
