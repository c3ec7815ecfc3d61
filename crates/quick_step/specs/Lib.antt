-- Which instruction a quick form stands for, and what running it comes to.
pub mod QuickForms
